-- The table from the top; a cell that is new is taken in where the entry lies.
use Rattle.std.proofs.Common.{◌∙◌, sym, ap, arith, rules, tests}
use Rattle.types.specs.Transactions.{number_of}
use Rattle.entry.specs.declared.Entry.{Entry}
use Rattle.entry.specs.Entry.{absence, plain_entry}
use Rattle.ledger.proofs.Places.{in_slot, owed_in}
use Rattle.calls.proofs.Single.{absence-shard, absence_unknown, absence-read, absence_full, absence_new, room_for}
use Rattle.calls.proofs.certificate.record_absence.Goals as goal

pub returns-then-not-is_shard : goal.returns-then-not-is_shard
returns-then-not-is_shard c = absence-shard c.args.ledger.now c.requires (number_of c.args.tx) (absence c.args.shard.0 c.args.key) (sym c.is_shard.ensures ∙ c.if-not-is_shard.true)

pub returns-in_default : goal.returns-in_default
returns-in_default c = absence_unknown c.args.ledger.now c.requires (number_of c.args.tx) (absence c.args.shard.0 c.args.key) (sym c.is_shard.ensures ∙ c.if-not-is_shard.false) (rw c.in_default.is at c.slot_of.ensures)

pub returns-then-is_read : goal.returns-then-is_read
returns-then-is_read c =
    absence-read c.args.ledger.now c.requires (number_of c.args.tx) (absence c.args.shard.0 c.args.key) c.in-Some.slot (rw c.in-Some.is at c.slot_of.ensures) _ (sym c.is_shard.ensures ∙ c.if-not-is_shard.false) (sym c.is_read.ensures ∙ c.if-is_read.true)

pub returns-then-is_full : goal.returns-then-is_full
returns-then-is_full c =
    absence_full c.args.ledger.now c.requires (number_of c.args.tx) (absence c.args.shard.0 c.args.key) c.in-Some.slot (rw c.in-Some.is at c.slot_of.ensures) _ (sym c.is_shard.ensures ∙ c.if-not-is_shard.false) (sym c.is_read.ensures ∙ c.if-is_read.false) (search rules)

pub read_absent-requires : goal.read_absent-requires
unfolding plain_entry
read_absent-requires c =
    let l = c.args.ledger.now in
    let there = owed_in l c.requires (number_of c.args.tx) c.in-Some.slot (rw c.in-Some.is at c.slot_of.ensures) in
    room_for _ (absence c.args.shard.0 c.args.key) (there.good _).absence_order
    (omega (arith, ap (λ (e : Entry). e.absences_len) (in_slot l c.in-Some.slot c.index-ledger-slot.result c.index-ledger-slot-2.result there.slot)))

pub returns : goal.returns
returns c =
    let l = c.args.ledger.now in
    let lies = rw c.in-Some.is at c.slot_of.ensures in
    let e = in_slot l c.in-Some.slot c.index-ledger-slot-2.result c.index-ledger-slot.result lies.small in
    absence_new l c.requires (number_of c.args.tx) (absence c.args.shard.0 c.args.key) c.in-Some.slot lies _ (sym c.is_shard.ensures ∙ c.if-not-is_shard.false)
    (sym c.is_read.ensures ∙ c.if-is_read.false) (search rules) (search (rules, tests)) _ (rw e at c.read_absent.ensures) _
