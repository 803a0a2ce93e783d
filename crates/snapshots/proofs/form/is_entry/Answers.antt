-- A history that is formed is the rest of the form.
use Rattle.std.proofs.Common.{◌∙◌, ap, arith, length, length-drop, drop, ◌-◌}
use Rattle.std.proofs.Math.Seq.{take_all}
use Rattle.snapshots.specs.Form.{history_formed}
use Rattle.snapshots.proofs.Forms.{entry_rows, unmeasured}
use Rattle.snapshots.proofs.form.is_entry.Goals as goal

pub returns-in-None : goal.returns-in-None
returns-in-None c = unmeasured c.args.words.now c.in-None.ensures

pub returns-in-Some : goal.returns-in-Some
returns-in-Some c =
    let ws = c.args.words.now in
    let e = c.in-Some.ensures in
    c.is_history.ensures
    ∙ ap history_formed (take_all (length ws - c.in-Some.n) (drop c.in-Some.n ws) (omega (arith, length-drop c.in-Some.n ws)) ∙ ap (λ n. drop n ws) e.1)
    ∙ entry_rows ws e.0
