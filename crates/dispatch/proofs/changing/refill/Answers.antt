-- Every word is the given one.
use Rattle.std.proofs.Common.{◌∙◌, sym, ap, refl}
use mathlib.Core.Bool.{cond}
use mathlib.Core.List.{map}
use Rattle.dispatch.proofs.Turns.{filled}
use Rattle.dispatch.proofs.changing.refill.Goals as goal

pub returns-then-is_further : goal.returns-then-is_further
returns-then-is_further c =
    filled c.args.word c.fill.new.self c.args.lent.now c.fill.ensures.len (λ k h. c.fill.ensures.clones k 0 h refl)
    ∙ sym (ap (λ b. cond b (map (λ w. c.args.word) c.args.lent.now) c.args.lent.now) c.if-is_further.true)
