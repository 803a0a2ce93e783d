-- A pair that stands before moves the lower end past it, any other the upper one to it.
use Rattle.std.proofs.Common.{◌+◌, ◌/◌, arith, rules}
use Rattle.lists.proofs.Loops.{rank_le}
use Rattle.types.specs.Transactions.{number_of}
use Rattle.store.specs.Issuers.{pairs_in, is_before}
use Rattle.store.proofs.Pairs.{pairs-length, pairs-told}
use Rattle.store.proofs.Keyed.{Word, pairs-words, rank_high, rank_low}
use Rattle.store.proofs.issuers.Issuers.rank.Goals as goal

pub loop-low-init : goal.loop-low-init
loop-low-init c =
    let x = c.args.self.now in
    (omega arith, omega (arith, rank_le (is_before c.args.r.0 (number_of c.args.t)) (pairs_in x), pairs-length x), omega arith)

pub loop-low-preserved-then-leads : goal.loop-low-preserved-then-leads
loop-low-preserved-then-leads c =
    let l = c.loop-low in
    let x = c.args.self.now in
    let r = c.args.r.0 in
    let t = number_of c.args.t in
    let w : Word t = search rules in
    let mid = (l.low + l.high) / 2 in
    let told = pairs-told x (is_before r t) mid _ _ (omega arith) c.leads.ensures c.if-leads.true in
    (omega (arith, rank_low r t w (pairs_in x) (pairs-words x) mid x.rising (omega (arith, pairs-length x)) told), l.invariant.1, l.invariant.2)

pub loop-low-preserved : goal.loop-low-preserved
loop-low-preserved c =
    let l = c.loop-low in
    let x = c.args.self.now in
    let r = c.args.r.0 in
    let t = number_of c.args.t in
    let w : Word t = search rules in
    let mid = (l.low + l.high) / 2 in
    let told = pairs-told x (is_before r t) mid _ _ (omega arith) c.leads.ensures c.if-leads.false in
    (l.invariant.0, rank_high r t w (pairs_in x) (pairs-words x) mid (omega (arith, pairs-length x)) told, omega arith)
