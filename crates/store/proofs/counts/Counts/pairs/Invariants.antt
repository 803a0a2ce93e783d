-- The pairs put down and those to come are all of them.
use Rattle.std.proofs.Common.{◌≡◌, ◌*◌, ◌++◌, drop}
use Rattle.lists.specs.Lists.{concat_map}
use Rattle.lists.specs.Front.{held}
use Rattle.rules.specs.Snapshot.{count_words}
use Rattle.store.specs.Counts.{counts_in}
use Rattle.store.proofs.counts.Counts.pairs.Given as goal

abbrev pub invariant-loop-c : goal.invariant-loop-c
invariant-loop-c l =
    (l.words.len ≡ 2 * l.c-index) × (held l.words ++ concat_map count_words (drop l.c-index (counts_in l.self)) ≡ concat_map count_words (counts_in l.self))
