-- An entry named under its records, from its last edge to its first: what a turn finds room for, puts in and leaves.
-- Assumes nothing.
use Prim.Native.Nat.{ℕ, zero, suc, ◌+◌, ◌-◌, ◌≤◌, ◌<◌}
use mathlib.Core.Path.{◌≡◌, sym, ap, ◌∙◌}
use mathlib.Core.Bool.{Bool, true, false, cond}
use mathlib.Core.List.{List, [], ◌∷◌, map}
use native.Mathlib.Omega.{arith}
use lib.Dec.{eqb, ltb}
use lib.ListN.{length, drop, get_or}
use Rattle.lists.specs.Lists.{cons_if, keep, include, include_all}
use Rattle.rules.specs.Numbers.{record_key}
use Rattle.rules.specs.Plain.{Edge}
use Rattle.rules.specs.Index.{Pair, pair_key}
use Rattle.types.specs.Transactions.{number_of}
use Rattle.entry.specs.declared.Entry.{Entry}
use Rattle.entry.specs.Entry.{plain_entry, edges_of}
use Rattle.entry.proofs.Shape.{fits_of}
use Rattle.entry.proofs.Edges.{edges-cons, edges-end}
use Rattle.store.specs.declared.issuers.Issuers.{Issuers}
use Rattle.store.specs.Issuers.{Holds, pair, pairs_in, room_for}
use Rattle.calls.specs.Naming.{Nameable, with_pairs}

-- putting in leaves no list shorter
module _ {A : Type 0} (key : A → ℕ) where
  pub include_grows : (e : A) (l : List A) → length l ≤ length (include key e l)
  include_grows e [] = omega arith
  include_grows e (x ∷ l) = go (include_grows e l) (ltb (key e) (key x)) (eqb (key e) (key x))
    where
      go : length l ≤ length (include key e l) → (b c : Bool) → suc (length l) ≤ length (cond b (e ∷ x ∷ l) (x ∷ cond c l (include key e l)))
      go ih true c = omega arith
      go ih false true = omega arith
      go ih false false = omega arith

  -- those from a place on are at most as many as all
  pub fewer_from : {B C : Type 0} (f : C → A) (g : B → C) (p : B → Bool) (i : ℕ) (bs : List B) (l : List A) →
      length (include_all key (map f (map g (keep p (drop i bs)))) l) ≤ length (include_all key (map f (map g (keep p bs))) l)
  fewer_from f g p zero bs l = omega arith
  fewer_from f g p (suc i) [] l = omega arith
  fewer_from f g p (suc i) (b ∷ bs) l = go (fewer_from f g p i bs l) (p b)
    where
      go : length (include_all key (map f (map g (keep p (drop i bs)))) l) ≤ length (include_all key (map f (map g (keep p bs))) l) → (t : Bool) →
          length (include_all key (map f (map g (keep p (drop i bs)))) l) ≤ length (include_all key (map f (map g (cons_if t b (keep p bs)))) l)
      go ih true = omega (arith, include_grows (f (g b)) (include_all key (map f (map g (keep p bs))) l))
      go ih false = ih

-- the pairs of an entry's edges from a place on
abbrev pub pairs_from : ℕ → Entry → ℕ → List Pair
pairs_from local e i =
    map (λ (r : ℕ). record { key = r; transaction = number_of e.tx }) (map (λ (g : Edge). record_key g.id) (keep (λ g. eqb g.from local) (drop i (edges_of e))))

-- x is x₀ with the pairs of the edges from i on put in
pub record NamedFrom (x₀ : Issuers) (e : Entry) (local : ℕ) (x : Issuers) (i : ℕ) : Type 0 where
  pub low : i ≤ e.edges_len
  pub holds : Holds (include_all pair_key (pairs_from local e i) (pairs_in x₀)) x

pub named_none : (x₀ : Issuers) (e : Entry) (local : ℕ) → NamedFrom x₀ e local x₀ e.edges_len
named_none x₀ e local =
    record { low = omega arith; holds = record { pairs = rw (edges-end e (fits_of e) e.edges_len (omega arith)) } }

pub named-all : (x₀ : Issuers) (e : Entry) (local : ℕ) (x : Issuers) (i : ℕ) → NamedFrom x₀ e local x i → i ≤ 0 → Holds (with_pairs local e x₀) x
unfolding plain_entry
named-all x₀ e local x i v h =
    let z : i ≡ 0 = omega arith in
    record { pairs = v.holds.pairs ∙ rw z }

module _ (x₀ : Issuers) (e : Entry) (local : ℕ) (x : Issuers) (i : ℕ) (n : Nameable x₀ e local) (v : NamedFrom x₀ e local x i) (h : 0 < i) where
  next : i - 1 + 1 ≡ i
  next = omega arith

  hit : eqb (get_or e.froms (i - 1) 0) local ≡ true → pairs_from local e (i - 1) ≡ pair (record_key (get_or e.ids (i - 1) 0)) (number_of e.tx) ∷ pairs_from local e i
  hit t = rw (edges-cons e (fits_of e) (i - 1) (omega (arith, v.low)), t, next)

  miss : eqb (get_or e.froms (i - 1) 0) local ≡ false → pairs_from local e (i - 1) ≡ pairs_from local e i
  miss t = rw (edges-cons e (fits_of e) (i - 1) (omega (arith, v.low)), t, next)

  module _ (r : ℕ) (q : r ≡ record_key (get_or e.ids (i - 1) 0)) (t : eqb (get_or e.froms (i - 1) 0) local ≡ true) where
    more : include pair_key (pair r (number_of e.tx)) (pairs_in x) ≡ include_all pair_key (pairs_from local e (i - 1)) (pairs_in x₀)
    more = rw (q, v.holds.pairs, hit t)

    pub named-room : room_for x r (number_of e.tx)
    unfolding plain_entry
    named-room =
        omega (
          arith,
          n,
          ap length more,
          fewer_from pair_key (λ (r : ℕ). record { key = r; transaction = number_of e.tx }) (λ (g : Edge). record_key g.id) (λ g. eqb g.from local) (i - 1) (edges_of e) (pairs_in x₀),
        )

    pub named_one : (y : Issuers) → Holds (include pair_key (pair r (number_of e.tx)) (pairs_in x)) y → NamedFrom x₀ e local y (i - 1)
    named_one y k = record { low = omega (arith, v.low); holds = record { pairs = k.pairs ∙ more } }

  pub named_other : eqb (get_or e.froms (i - 1) 0) local ≡ false → NamedFrom x₀ e local x (i - 1)
  named_other t = record { low = omega (arith, v.low); holds = record { pairs = v.holds.pairs ∙ ap (λ ps. include_all pair_key ps (pairs_in x₀)) (sym (miss t)) } }
