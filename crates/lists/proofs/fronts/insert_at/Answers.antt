-- Those from k on moved up by one, and x put where the first of them stood.
use Rattle.std.proofs.Common.{◌∙◌, ap, arith, rules, take, slice_set, ◌+◌}
use Rattle.lists.proofs.Std.{put_in, put_whole}
use Rattle.lists.proofs.fronts.insert_at.Goals as goal

pub returns : goal.returns
returns g c =
    let a = c.args in
    record {
      size = search rules;
      front = ap (λ l. take (a.n + 1) (slice_set l a.k a.x)) c.copy_within.ensures.after ∙ put_in a.s.now a.n a.k a.x (omega arith) (omega arith);
      whole = ap (λ l. slice_set l a.k a.x) c.copy_within.ensures.after ∙ put_whole a.s.now a.n a.k a.x (omega arith) (omega arith);
    }
