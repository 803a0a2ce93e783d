-- The flags before j are set; those from j on are still to come.
use Rattle.std.proofs.Common.{◌≡◌, length, take, List}
use Rattle.lists.specs.Lists.{zip_by}
use Rattle.rules.specs.Plain.{Departure}
use Rattle.entry.specs.Entry.{plain_entry}
use Rattle.judge.specs.View.{Shows}
use Rattle.sweeps.specs.Pruning.{or_holds}
use Rattle.sweeps.proofs.Pruning.{marking}
use Rattle.sweeps.proofs.prune.with_needs.Given as goal
use Prim.Native.Nat.{ℕ}

abbrev pub invariant-loop-j : goal.invariant-loop-j
invariant-loop-j l =
    (length l.flags ≡ 32) × ((ds : List Departure) (now : ℕ) → Shows ds now l.view → marking l.local.0 (plain_entry l.e) ds l.view.seen.len l.flags l.j ≡ zip_by (or_holds l.local.0 (plain_entry l.e)) (take l.view.seen.len l.initial.flags) ds)
