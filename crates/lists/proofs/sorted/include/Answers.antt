-- Where x stands at its rank the numbers are the same; else it is put in there.
use Rattle.std.proofs.Common.{ℕ, ◌<◌, ◌≤◌, ◌≡◌, refl, sym, ap, ◌∙◌, Bool, true, false, List, arith, length, take, drop, rules, tests}
use Rattle.std.proofs.Math.Seq.{length-take-le}
use Rattle.lists.specs.Lists.{has, include, self, Ascending}
use Rattle.lists.specs.Arrays.{rank, leads, under}
use Rattle.lists.proofs.Order.{include-known, length-include_new}
use Rattle.lists.proofs.Loops.{rank_le, include-rank}
use Rattle.lists.proofs.Ranked.{at-rank}
use Rattle.lists.proofs.sorted.include.Goals as goal

seen : (l : List ℕ) (x k : ℕ) (r b : Bool) → Ascending self l → k ≡ rank (under x) l → r ≡ leads self x (drop k l) → r ≡ b → has self x l ≡ b
seen l x k r b h q e t = at-rank self x l h ∙ ap (λ i. leads self x (drop i l)) (sym q) ∙ sym e ∙ t

room : (s : List ℕ) (n x : ℕ) → n ≤ length s → has self x (take n s) ≡ false → length (include self x (take n s)) ≤ length s → n < length s
room s n x h f q = omega (arith, length-include_new self x (take n s) f, length-take-le n s h, q)

pub returns-then-stands : goal.returns-then-stands
returns-then-stands c =
    let a = c.args in
    let k = c.rank-k.ensures (under a.x) (λ y b e. search (rules, tests)) in
    record {
      size = refl;
      room = search rules;
      front = sym (include-known self a.x (take a.n a.s.now) c.requires.1 (seen _ _ _ _ true c.requires.1 k c.stands.ensures c.if-stands.true));
    }

pub insert_at-requires : goal.insert_at-requires
insert_at-requires c =
    let a = c.args in
    let k = c.rank-k.ensures (under a.x) (λ y b e. search (rules, tests)) in
    let new = seen _ _ _ _ false c.requires.1 k c.stands.ensures c.if-stands.false in
    (omega (arith, k, rank_le (under a.x) (take a.n a.s.now), length-take-le a.n a.s.now c.requires.0), room a.s.now a.n a.x c.requires.0 new c.requires.2)

pub returns : goal.returns
returns c =
    let a = c.args in
    let k = c.rank-k.ensures (under a.x) (λ y b e. search (rules, tests)) in
    let o = c.insert_at.ensures in
    let new = seen _ _ _ _ false c.requires.1 k c.stands.ensures c.if-stands.false in
    record {
      size = o.size;
      room = omega (arith, room a.s.now a.n a.x c.requires.0 new c.requires.2, o.size);
      front = o.front ∙ rw k (include-rank self a.x (take a.n a.s.now) new);
    }
