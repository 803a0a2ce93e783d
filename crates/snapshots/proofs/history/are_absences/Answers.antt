-- What is tested of each is tested of what it means.
use Rattle.lists.proofs.Maps.{all_map, ascending_map}
use Rattle.rules.specs.Numbers.{is_shard}
use Rattle.rules.specs.Plain as plain
use Rattle.rules.specs.Plain.{absence_key}
use Rattle.entry.specs.Entry.{plain_absence}
use Rattle.snapshots.proofs.history.are_absences.Goals as goal

pub returns-then-are_placed : goal.returns-then-are_placed
returns-then-are_placed c = rw (← all_map plain_absence (λ (a : plain.Absence). is_shard a.shard) c.args.s.now, ← ascending_map plain_absence absence_key c.args.s.now, ← c.are_placed.ensures, c.if-are_placed.true) c.rise.ensures

pub returns-else-are_placed : goal.returns-else-are_placed
returns-else-are_placed c = rw (← all_map plain_absence (λ (a : plain.Absence). is_shard a.shard) c.args.s.now, ← c.are_placed.ensures, c.if-are_placed.false)
