-- The pairs kept are fewer, and otherwise as they were.
use Rattle.std.proofs.Common.{take, sym, subst, arith}
use Rattle.lists.specs.Lists.{Every, Ascending}
use Rattle.rules.specs.Index.{pair_key}
use Rattle.store.specs.Issuers.{pairs_in}
use Rattle.store.proofs.Kept.{every_kept, kept_rises}
use Rattle.store.proofs.Keyed.{OfWord, pairs-words}
use Rattle.store.proofs.Fronts.{words_of}
use Rattle.store.proofs.issuers.Issuers.retain_flagged.Goals as goal

pub invariant_of-self-clause-rising : goal.invariant_of-self-clause-rising
invariant_of-self-clause-rising c =
    let x = c.args.self.now in
    subst (Ascending pair_key) (sym c.retain_pairs-self.ensures.pairs) (kept_rises pair_key (take x.len c.args.stay.now) (pairs_in x) x.rising)

pub invariant_of-self-clause-words : goal.invariant_of-self-clause-words
invariant_of-self-clause-words c =
    let x = c.args.self.now in
    let q = c.retain_pairs-self.ensures in
    words_of _ _ _ (omega (arith, q.room, q.lengths.0)) (omega (arith, q.room, q.lengths.1)) (subst (Every OfWord) (sym q.pairs) (every_kept OfWord (take x.len c.args.stay.now) (pairs_in x) (pairs-words x)))
