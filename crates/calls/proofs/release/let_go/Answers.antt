-- Where the roster has the transaction and its entry passes, both are let go; else nothing changes.
use Rattle.std.proofs.Common.{◌∙◌, sym, arith, refl}
use Rattle.std.proofs.lemmas.Fn.{says_at}
use Rattle.types.specs.Transactions.{number_of}
use Rattle.ledger.proofs.Places.{found_at}
use Rattle.calls.proofs.Single.{released_unknown, released_other, released-passing}
use Rattle.calls.proofs.release.let_go.Goals as goal

pub returns-in_default : goal.returns-in_default
returns-in_default g c = λ q says n. released_unknown c.args.ledger.now c.requires.held (number_of c.args.tx) q n (sym c.find.ensures ∙ c.in_default.is)

pub offset_bounds-ledger-k : goal.offset_bounds-ledger-k
offset_bounds-ledger-k g c = omega (arith, (found_at c.args.ledger.now c.requires.held (number_of c.args.tx) c.in-Some.k (sym c.find.ensures ∙ c.in-Some.is)).place, c.args.ledger.now.roster.room)

pub bounds-ledger-k : goal.bounds-ledger-k
bounds-ledger-k g c = omega (arith, (found_at c.args.ledger.now c.requires.held (number_of c.args.tx) c.in-Some.k (sym c.find.ensures ∙ c.in-Some.is)).place, c.args.ledger.now.roster.room)

pub bounds-ledger-slot : goal.bounds-ledger-slot
bounds-ledger-slot g c = (found_at c.args.ledger.now c.requires.held (number_of c.args.tx) c.in-Some.k (sym c.find.ensures ∙ c.in-Some.is)).slot

pub returns-then-not-goes : goal.returns-then-not-goes
returns-then-not-goes g c = λ q says n.
    released_other c.args.ledger.now c.requires.held (number_of c.args.tx) q n c.in-Some.k _ (sym c.find.ensures ∙ c.in-Some.is)
    (sym (says _ _ (says_at g.F.Fn c.goes.ensures refl)) ∙ c.if-not-goes.true)

pub remove_at-requires : goal.remove_at-requires
remove_at-requires g c =
    (found_at c.args.ledger.now c.requires.held (number_of c.args.tx) c.in-Some.k (sym c.find.ensures ∙ c.in-Some.is)).place

pub returns : goal.returns
returns g c = λ q says n.
    released-passing c.args.ledger.now c.requires.held (number_of c.args.tx) q n c.in-Some.k _ (sym c.find.ensures ∙ c.in-Some.is)
    (sym (says _ _ (says_at g.F.Fn c.goes.ensures refl)) ∙ c.if-not-goes.false) _ _ c.remove_at.ensures c.unname.ensures _
