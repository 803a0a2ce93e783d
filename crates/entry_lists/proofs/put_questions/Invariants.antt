-- What is written, with the questions still to come, is all that the entry asks.
use Rattle.std.proofs.Common.{drop, map, refl, not, eqb, ◌+◌, take}
use Rattle.lists.specs.Lists.{keep}
use Rattle.rules.specs.Readings.{ask, question_words}
use Rattle.entry.specs.Entry.{plain_entry}
use Rattle.entry_lists.specs.Tests.{asks_of}
use Rattle.entry_lists.proofs.Runs.{Sofar}
use Rattle.entry_lists.proofs.put_questions.Given as goal

abbrev pub invariant-loop-shard : goal.invariant-loop-shard
invariant-loop-shard l =
    let p = plain_entry l.e in
    let rest = drop l.shard-index (take l.e.core_len l.e.core) in
    Sofar question_words 5 (λ x. refl) (asks_of l.local.0 p) l.initial.words l.from (map (ask p) (keep (λ s. not (eqb s l.local.0)) rest)) l.words l.count (l.from + l.shard-index)
