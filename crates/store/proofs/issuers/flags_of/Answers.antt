-- The flags are what the closure says.
use Rattle.std.proofs.Common.{◌≡◌, ◌∙◌, refl, sym, ap, take, map, arith, rules}
use Rattle.std.proofs.lemmas.Fn.{says}
use Rattle.lists.proofs.Counting.{fill_one}
use Rattle.store.proofs.issuers.flags_of.Goals as goal

pub loop-i-preserved : goal.loop-i-preserved
loop-i-preserved g c =
    let l = c.loop-i in (
      search rules,
      λ p is. fill_one p l.stay c.args.transactions.now l.i 0 _ (omega arith) (omega arith) (is _ _ (says g.F.Fn c.stays.ensures refl)) (l.invariant.1 p is),
    )

pub returns : goal.returns
returns g c p is =
    let l = c.loop-i in
    let q : l.i ≡ c.args.n = omega arith in
    ap (λ m. take m l.stay) (sym q) ∙ l.invariant.1 p is ∙ ap (λ m. map p (take m c.args.transactions.now)) q
