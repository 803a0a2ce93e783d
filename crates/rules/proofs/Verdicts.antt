-- What a verdict reads: neither the other entries nor the counts; at a later clock no more stands, nor by a stamp; a new departure that the entry
-- does not hold changes nothing.
-- Assumes nothing.
use Prim.Native.Nat.{ℕ, ◌≤◌}
use mathlib.Core.Path.{◌≡◌, refl, sym, ap, ◌∙◌}
use mathlib.Core.Bool.{Bool, true, false, cond, ◌||◌}
use mathlib.Core.List.{List, [], ◌∷◌}
use mathlib.Core.Option.{Option, none, some}
use native.Mathlib.Omega.{arith}
use lib.Dec.{ltb}
use borrow.Author.Tests.{ltb-true, lt-ltb, leb-true, le-leb}
use Rattle.lists.specs.Lists.{keep, any, Ascending, at, has, change, change_if, include}
use Rattle.lists.proofs.Tests.{or_left, or_right}
use Rattle.lists.proofs.Keep.{any_more, any_same}
use Rattle.lists.proofs.Order.{keep-include}
use Rattle.lists.proofs.Distinct.{or_not_left, or_not_right}
use Rattle.rules.specs.Plain.{Entry, Departure, Count, Plain, shard_of, remote, with_entries, with_departures, with_counts}
use Rattle.rules.proofs.Over.{over_route, same_over}
use Rattle.rules.specs.Over.{over, counts_before, earlier, smallest_cut, departure_over}
use Rattle.rules.specs.Prune.{readable_until, readable, is_of_departed_by, answerable, leg_horizon, validity_horizon, Rule, awaiting, settling, recorded, answering, expiring, rule_of, stands_by, stands, holds}
use Rattle.rules.specs.Calls.{first_stamp, stamped}
use Rattle.lists.proofs.Parted.{keep-change_if, none_member, lacking_every}

-- a verdict reads neither the other entries nor the counts
pub stands_beside : (p : Plain) (es : List Entry) (cs : List Count) (u : ℕ) (e : Entry) → stands (with_counts cs (with_entries es p)) u e ≡ stands p u e
stands_beside p es cs u e = by (rule_of p.local e)
  where
    by : (r : Rule) → stands_by r (with_counts cs (with_entries es p)) u e ≡ stands_by r p u e
    by awaiting = refl
    by settling = refl
    by recorded = refl
    by answering = refl
    by expiring = refl

-- Every rule that lets an entry stand lets it stand at each earlier clock.
module _ {t u : ℕ} (h : t ≤ u) where
  until_before : (o : Option ℕ) → readable_until u o ≡ true → readable_until t o ≡ true
  until_before none e = refl
  until_before (some until) e = le-leb t until (omega (arith, leb-true u until e))

  readable-before : (d : Departure) → readable u d ≡ true → readable t d ≡ true
  readable-before d e = until_before d.stamp e

  answerable-before : (o : Option Departure) → answerable u o ≡ true → answerable t o ≡ true
  answerable-before none e = refl
  answerable-before (some d) e = readable-before d e

  within-before : (end : ℕ) → ltb u end ≡ true → ltb t end ≡ true
  within-before end e = lt-ltb t end (omega (arith, ltb-true u end e))

  pub stands-before : (p : Plain) (e : Entry) → stands p u e ≡ true → stands p t e ≡ true
  stands-before p e = by (rule_of p.local e)
    where
      by : (r : Rule) → stands_by r p u e ≡ true → stands_by r p t e ≡ true
      by awaiting s = refl
      by settling s = within-before (leg_horizon p e) s
      by recorded s = any_more (readable u) (readable t) readable-before (keep (is_of_departed_by e) p.departures) s
      by answering s =
          any_more _ (λ r. answerable t (departure_over p.departures e r))
          (λ r. answerable-before (departure_over p.departures e r)) (remote p.local e.terms) s
      by expiring s = within-before (validity_horizon p e) s

-- What a stamp and a new departure do to a verdict.
module _ (u : ℕ) where
  stamped-readable : (until : ℕ) (d : Departure) → readable u (stamped until d) ≡ true → readable u d ≡ true
  stamped-readable until d h = go d.stamp h
    where
      go : (o : Option ℕ) → readable_until u (first_stamp until o) ≡ true → readable_until u o ≡ true
      go none q = refl
      go (some v) q = q

  -- of two lists of which one has more stamps
  module _ (until : ℕ) (q : Departure → Bool) where
    first_readable : (x : Departure) (c : Bool) → readable u (cond c (stamped until x) x) ≡ true → readable u x ≡ true
    first_readable x true h = stamped-readable until x h
    first_readable x false h = h

    any-stamped : (l : List Departure) → any (readable u) (change_if q (stamped until) l) ≡ true → any (readable u) l ≡ true
    any-stamped [] h = h
    any-stamped (x ∷ l) h = go (readable u (cond (q x) (stamped until x) x)) refl h (any-stamped l)
      where
        go : (b : Bool) → readable u (cond (q x) (stamped until x) x) ≡ b → b || any (readable u) (change_if q (stamped until) l) ≡ true →
            (any (readable u) (change_if q (stamped until) l) ≡ true → any (readable u) l ≡ true) → readable u x || any (readable u) l ≡ true
        go true e w ih = or_left (readable u x) _ (first_readable x (q x) e)
        go false e w ih = or_right (readable u x) _ (ih w)

  -- the same departure, with no fewer stamps
  record Stamped (d c : Departure) : Type 0 where
    shard : d.shard ≡ c.shard
    cut : d.cut ≡ c.cut
    reads : readable u d ≡ true → readable u c ≡ true

  abbrev BothStamped : Option Departure → Option Departure → Type 0
  BothStamped none none = Unit {0}
  BothStamped none (some c) = ⊥
  BothStamped (some d) none = ⊥
  BothStamped (some d) (some c) = Stamped d c

  earlier-stamped : (d c : Departure) → Stamped d c → (o r : Option Departure) → BothStamped o r → BothStamped (earlier d o) (earlier c r)
  earlier-stamped d c w none none v = w
  earlier-stamped d c w none (some b) v = absurd v
  earlier-stamped d c w (some a) none v = absurd v
  earlier-stamped d c w (some a) (some b) v = rw same (go (counts_before c b))
    where
      same : counts_before d a ≡ counts_before c b
      same = rw (w.shard, w.cut, v.shard, v.cut)

      go : (x : Bool) → BothStamped (cond x (some d) (some a)) (cond x (some c) (some b))
      go true = w
      go false = v

  smallest-stamped : (until : ℕ) (q : Departure → Bool) (l : List Departure) → BothStamped (smallest_cut (change_if q (stamped until) l)) (smallest_cut l)
  smallest-stamped until q [] = tt
  smallest-stamped until q (x ∷ l) =
      earlier-stamped (cond (q x) (stamped until x) x) x (one (q x)) (smallest_cut (change_if q (stamped until) l)) (smallest_cut l) (smallest-stamped until q l)
    where
      one : (b : Bool) → Stamped (cond b (stamped until x) x) x
      one true = record { shard = refl; cut = refl; reads = stamped-readable until x }
      one false = record { shard = refl; cut = refl; reads = λ h. h }

  answerable-stamped : (o r : Option Departure) → BothStamped o r → answerable u o ≡ true → answerable u r ≡ true
  answerable-stamped none none v h = h
  answerable-stamped none (some c) v h = absurd v
  answerable-stamped (some d) none v h = absurd v
  answerable-stamped (some d) (some c) v h = v.reads h

  -- what stands with a stamp stands without it
  pub stands-stamped : (p : Plain) (s until : ℕ) (e : Entry) → stands (with_departures (change shard_of s (stamped until) p.departures) p) u e ≡ true → stands p u e ≡ true
  stands-stamped p s until e = by (rule_of p.local e)
    where
      stamps : List Departure → List Departure
      stamps l = change shard_of s (stamped until) l

      by : (r : Rule) → stands_by r (with_departures (change shard_of s (stamped until) p.departures) p) u e ≡ true → stands_by r p u e ≡ true
      by awaiting h = h
      by settling h = h
      by recorded h =
          any-stamped until (at shard_of s) (keep (is_of_departed_by e) p.departures)
          (rw (keep-change_if (is_of_departed_by e) (at shard_of s) (stamped until) (λ d. refl) p.departures) at h)
      by answering h =
          any_more _ _
          (λ r w. ap (answerable u) (over_route p.departures e r)
          ∙ answerable-stamped (smallest_cut (change_if (at shard_of s) (stamped until) (keep (over e r) p.departures))) (smallest_cut (keep (over e r) p.departures))
          (smallest-stamped until (at shard_of s) (keep (over e r) p.departures))
          (ap (answerable u) (sym (over_route (stamps p.departures) e r ∙ ap smallest_cut (keep-change_if (over e r) (at shard_of s) (stamped until) (λ d. refl) p.departures))) ∙ w))
          (remote p.local e.terms) h
      by expiring h = h

  -- a new departure that the entry does not hold changes nothing
  pub stands_filed : (p : Plain) (d : Departure) (e : Entry) → Ascending shard_of p.departures → has shard_of (shard_of d) p.departures ≡ false →
      holds p.local d e ≡ false → stands (with_departures (include shard_of d p.departures) p) u e ≡ stands p u e
  stands_filed p d e a h n = by (rule_of p.local e)
    where
      passes : (q : Departure → Bool) → q d ≡ false → keep q (include shard_of d p.departures) ≡ keep q p.departures
      passes q z =
          keep-include shard_of q d p.departures (lacking_every shard_of (λ x. q x ≡ q d) (shard_of d) p.departures h) a ∙ rw z

      by : (r : Rule) → stands_by r (with_departures (include shard_of d p.departures) p) u e ≡ stands_by r p u e
      by awaiting = refl
      by settling = refl
      by recorded = ap (any (readable u)) (passes (is_of_departed_by e) (or_not_left (is_of_departed_by e d) _ n))
      by answering =
          any_same _ _ (remote p.local e.terms)
          (λ r m. ap (answerable u)
          (same_over (include shard_of d p.departures) p.departures e r
          (passes (over e r) (none_member (λ r. over e r d) (remote p.local e.terms) (or_not_right (is_of_departed_by e d) _ n) m))))
      by expiring = refl
