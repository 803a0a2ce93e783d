-- The flags that the closure's test says of the transactions keep the pairs that it passes.
use Rattle.std.proofs.Common.{◌∙◌, arith}
use Rattle.store.proofs.Fronts.{kept_by_test}
use Rattle.store.proofs.issuers.Issuers.retain.Goals as goal

pub returns : goal.returns
returns g c p is =
    let x = c.args.self.now in
    record {
      pairs = c.retain_flagged.ensures.pairs ∙ kept_by_test x.records x.transactions x.len (omega (arith, x.room, x.lengths.0)) (omega (arith, x.room, x.lengths.1)) p _ (c.flags_of-stay.ensures p is);
    }
