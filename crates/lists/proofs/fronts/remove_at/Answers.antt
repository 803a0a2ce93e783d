-- Those behind k moved down by one.
use Rattle.std.proofs.Common.{◌∙◌, ap, arith, rules, take, ◌-◌}
use Rattle.lists.specs.Arrays.{remove_at}
use Rattle.lists.proofs.Std.{taken_out, taken_whole}
use Rattle.lists.proofs.fronts.remove_at.Goals as goal

pub returns : goal.returns
returns g c =
    let a = c.args in
    record {
      size = search rules;
      front = ap (λ l. take (a.n - 1) l) c.copy_within.ensures.after ∙ taken_out a.s.now a.n a.k (omega arith) (omega arith);
      whole = ap (λ l. remove_at (a.n - 1) l) c.copy_within.ensures.after ∙ taken_whole a.s.now a.n a.k (omega arith) (omega arith);
    }
