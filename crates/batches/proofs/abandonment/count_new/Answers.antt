-- A group counts if its transaction is neither owed nor that of an earlier one.
use Rattle.std.proofs.Common.{◌∙◌, sym, arith}
use Rattle.lists.specs.Lists.{self}
use Rattle.lists.proofs.Loops.{located, missing}
use Rattle.store.specs.Roster.{keys_of}
use Rattle.types.specs.Transactions.{number_of}
use Rattle.batches.specs.Abandoned.{transactions}
use Rattle.batches.proofs.Counting.{count_start, count-end, turn_owed, turn_earlier, turn_new, transactions-length, transaction-at}
use Rattle.batches.proofs.abandonment.count_new.Goals as goal

pub loop-i-init : goal.loop-i-init
loop-i-init c = (omega arith, omega (arith, count_start (keys_of c.args.roster.now) (transactions c.args.groups.words.now)))

pub loop-i-preserved-in_default : goal.loop-i-preserved-in_default
loop-i-preserved-in_default c =
    let l = c.loop-i in
    let r = c.args.groups in
    let h = c.len-i-end.ensures in
    let here = c.transaction-tx.ensures ∙ transaction-at r.words.now r.formed l.i (omega (arith, h)) in
    let done = turn_owed (keys_of c.args.roster.now) (transactions r.words.now) l.i (omega (arith, h, transactions-length r.words.now r.formed)) (number_of c.transaction-tx.result) here
    (located self (number_of c.transaction-tx.result) (keys_of c.args.roster.now) c.in_default.field-0 (sym c.find.ensures ∙ c.in_default.is)).known in
    (omega arith, omega (arith, done, l.invariant.1))

pub loop-i-preserved-then-is_among : goal.loop-i-preserved-then-is_among
loop-i-preserved-then-is_among c =
    let l = c.loop-i in
    let r = c.args.groups in
    let h = c.len-i-end.ensures in
    let here = c.transaction-tx.ensures ∙ transaction-at r.words.now r.formed l.i (omega (arith, h)) in
    let done = turn_earlier (keys_of c.args.roster.now) (transactions r.words.now) l.i (omega (arith, h, transactions-length r.words.now r.formed)) (number_of c.transaction-tx.result) here
    (sym c.is_among.ensures ∙ c.if-is_among.true) in
    (omega arith, omega (arith, done, l.invariant.1))

pub loop-i-preserved : goal.loop-i-preserved
loop-i-preserved c =
    let l = c.loop-i in
    let r = c.args.groups in
    let h = c.len-i-end.ensures in
    let here = c.transaction-tx.ensures ∙ transaction-at r.words.now r.formed l.i (omega (arith, h)) in
    let done = turn_new (keys_of c.args.roster.now) (transactions r.words.now) l.i (omega (arith, h, transactions-length r.words.now r.formed)) (number_of c.transaction-tx.result) here
    (missing self (number_of c.transaction-tx.result) (keys_of c.args.roster.now) (sym c.find.ensures ∙ c.in-None.is)).known (sym c.is_among.ensures ∙ c.if-is_among.false) in
    (omega arith, omega (arith, done, l.invariant.1))

pub returns : goal.returns
returns c =
    let l = c.loop-i in
    let r = c.args.groups in
    omega (arith, l.invariant.1, count-end (keys_of c.args.roster.now) (transactions r.words.now) l.i (omega (arith, c.len-i-end.ensures, transactions-length r.words.now r.formed)))
