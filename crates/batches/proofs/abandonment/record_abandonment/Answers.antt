-- A turn of the loop is one group: an owed entry takes the shard, any other is rebuilt.
use Rattle.std.specs.Prelude.{Err}
use Rattle.std.proofs.Common.{◌≡◌, sym, ap, ◌∙◌, ◌+◌, ◌≤◌, length, arith, rules}
use Rattle.types.specs.Transactions.{number_of}
use Rattle.lists.specs.Lists.{Every}
use Rattle.rules.specs.Numbers.{is_word}
use Rattle.rules.specs.Good.{Holds}
use Rattle.words.specs.Taken.{reach_at}
use Rattle.words.proofs.Forms.{all_words_lem}
use Rattle.words.proofs.Groups.{recorded, reach-within, group_transaction_lem}
use Rattle.rules.specs.Entries.{with_departed_by}
use Rattle.entry.specs.Entry.{plain_entry}
use Rattle.ledger.specs.Contents.{lying_at}
use Rattle.ledger.specs.declared.Ledger.{Ledger}
use Rattle.ledger.proofs.Places.{AtSlot, found_at}
use Rattle.batches.proofs.Rebuilding.{passes_by, turned_away, rebuilding, rebuilt-few, countable, rebuilt-all, group_owed, group_room, group_new, ranks_within}
use Rattle.batches.proofs.abandonment.record_abandonment.Goals as goal
use Rattle.batches.proofs.abandonment.record_abandonment.Goals.{in-Some, in-None}

-- the group's transaction was found
there : (c : goal.In-Some) → AtSlot c.loop-i.ledger (number_of c.transaction-tx.result) c.in-Some.k
there c = found_at c.loop-i.ledger c.loop-i.invariant.doing.held _ c.in-Some.k (sym c.find.ensures ∙ c.in-Some.is)

pub returns-in_err-groups : goal.returns-in_err-groups
returns-in_err-groups c =
    let said : c.from_residual.result ≡ Err c.in_err-groups.field-0.0 = search rules in
    rw said (turned_away c.in_err-groups.field-0.0 c.args.ledger.now c.args.words.now c.requires c.in_err-groups.ensures.refused)

pub loop-i-init : goal.loop-i-init
loop-i-init c = rebuilding c.args.ledger.now c.in_ok-groups.groups.words.now c.reaches_at-at.result c.requires c.in_ok-groups.groups.formed c.reaches_at-at.ensures

pub offset_bounds-ledger-k : goal.offset_bounds-ledger-k
offset_bounds-ledger-k c = omega (arith, (there c).place, c.loop-i.ledger.roster.room)

pub bounds-ledger-k : goal.bounds-ledger-k
bounds-ledger-k c =
    let l : Ledger = c.loop-i.ledger in
    omega (arith, (found_at l c.loop-i.invariant.doing.held _ c.in-Some.k (sym c.find.ensures ∙ c.in-Some.is)).place, l.roster.room)

-- or it is new, and there is room
pub bounds-ledger-ledger : goal.bounds-ledger-ledger
bounds-ledger-ledger c =
    let ws = c.in_ok-groups.groups.words.now in
    group_room c.args.ledger.now ws (passes_by c.args.ledger.now c.args.words.now ws c.requires c.in_ok-groups.ensures.refused c.in_ok-groups.ensures.read) c.loop-i.ledger c.loop-i.at c.loop-i.rebuilt c.loop-i.i
    c.loop-i.invariant (omega (arith, c.loop-i-test.true, c.len-i-end.ensures)) _ (c.transaction-tx.ensures ∙ sym (group_transaction_lem ws c.loop-i.i c.loop-i.at)) (sym c.find.ensures ∙ c.in-None.is)

pub insert_at-requires : goal.insert_at-requires
insert_at-requires c =
    let ws = c.in_ok-groups.groups.words.now in (
      omega (arith, c.rank-k.ensures, ranks_within c.loop-i.ledger (number_of c.transaction-tx.result)),
      group_room c.args.ledger.now ws (passes_by c.args.ledger.now c.args.words.now ws c.requires c.in_ok-groups.ensures.refused c.in_ok-groups.ensures.read) c.loop-i.ledger c.loop-i.at c.loop-i.rebuilt c.loop-i.i
          c.loop-i.invariant (omega (arith, c.loop-i-test.true, c.len-i-end.ensures)) _ (c.transaction-tx.ensures ∙ sym (group_transaction_lem ws c.loop-i.i c.loop-i.at)) (sym c.find.ensures ∙ c.in-None.is),
    )

pub overflow_add-rebuilt : goal.overflow_add-rebuilt
overflow_add-rebuilt c =
    let g = c.in_ok-groups.groups in
    omega (arith, recorded g.words.now g.formed, rebuilt-few c.args.ledger.now g.words.now c.loop-i.ledger c.loop-i.at c.loop-i.rebuilt c.loop-i.i g.formed c.loop-i.invariant)

pub overflow_add-at : goal.overflow_add-at
overflow_add-at c =
    let g = c.in_ok-groups.groups in
    let within : c.loop-i.at + reach_at g.words.now c.loop-i.i ≤ length g.words.now = reach-within g.words.now g.formed c.loop-i.i c.loop-i.at (omega (arith, c.loop-i-test.true, c.len-i-end.ensures)) c.loop-i.invariant.reach in
    omega (arith, within, c.reach_at-at.ensures, ap length c.in_ok-groups.ensures.read, c.well_formed)

pub loop-i-preserved : goal.loop-i-preserved
unfolding plain_entry
loop-i-preserved c =
    let l : Ledger = c.loop-i.ledger in
    let ws = c.in_ok-groups.groups.words.now in
    let words : Every (Holds is_word) ws = rw c.in_ok-groups.ensures.read (all_words_lem c.args.words.now (λ j. omega (arith, c.type_inv.words j))) in
    let passes = passes_by c.args.ledger.now c.args.words.now ws c.requires c.in_ok-groups.ensures.refused c.in_ok-groups.ensures.read in
    let here = c.transaction-tx.ensures ∙ sym (group_transaction_lem ws c.loop-i.i c.loop-i.at) in
    elim c.match-find.branch [
      | in-Some w ↦ rw (w.ledger-is, w.rebuilt-is, c.reach_at-at.ensures) (group_owed c.args.ledger.now ws passes l c.loop-i.at c.loop-i.rebuilt c.loop-i.i c.loop-i.invariant (omega (arith, c.loop-i-test.true, c.len-i-end.ensures)) _ here w.in-Some.k w.index-ledger-slot.result _ (sym c.find.ensures ∙ w.in-Some.is) (record { plain = ap (λ n. with_departed_by n (plain_entry (lying_at l w.in-Some.k w.index-ledger-slot.result))) c.shard-shard.ensures }) _)
      | in-None w ↦ rw (w.ledger-is, w.rebuilt-is, c.reach_at-at.ensures) (group_new c.args.ledger.now ws passes l c.loop-i.at c.loop-i.rebuilt c.loop-i.i c.loop-i.invariant (omega (arith, c.loop-i-test.true, c.len-i-end.ensures)) _ here words _ _ (sym c.find.ensures ∙ w.in-None.is) w.rank-k.ensures w.insert_at.ensures w.group-e.result w.group-e.ensures _)
    ]

pub count_rebuilt-requires : goal.count_rebuilt-requires
count_rebuilt-requires c =
    let ws = c.in_ok-groups.groups.words.now in
    let passes = passes_by c.args.ledger.now c.args.words.now ws c.requires c.in_ok-groups.ensures.refused c.in_ok-groups.ensures.read in
    rw c.shard-shard.ensures
    (countable c.args.ledger.now ws c.loop-i.ledger c.loop-i.at c.loop-i.rebuilt c.loop-i.i passes c.loop-i.invariant (omega (arith, c.loop-i-test.false, c.len-i-end.ensures)))

pub returns : goal.returns
returns c =
    let ws = c.in_ok-groups.groups.words.now in
    let passes = passes_by c.args.ledger.now c.args.words.now ws c.requires c.in_ok-groups.ensures.refused c.in_ok-groups.ensures.read in
    rw (sym c.in_ok-groups.ensures.read)
    (rebuilt-all c.args.ledger.now ws c.loop-i.ledger c.loop-i.at c.loop-i.rebuilt c.loop-i.i passes c.loop-i.invariant (omega (arith, c.loop-i-test.false, c.len-i-end.ensures))
    _ (rw c.shard-shard.ensures at c.count_rebuilt.ensures) c.requires (rw (sym c.in_ok-groups.ensures.read) at c.in_ok-groups.ensures.refused))
