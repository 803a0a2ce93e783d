-- How many distinct numbers of a list are not among some keys, counted from the front: one counts if it is not among the keys and
-- has not come before. The distinct ones still to come are then those that neither the keys nor the front have.
-- Assumes nothing.
use Prim.Native.Nat.{ℕ, zero, suc, ◌+◌, ◌*◌, ◌≤◌, ◌<◌}
use mathlib.Core.Path.{◌≡◌, refl, sym, ap, ◌∙◌}
use mathlib.Core.Bool.{Bool, true, false, not, ◌||◌}
use mathlib.Core.List.{List, [], ◌∷◌}
use native.Mathlib.Numerals.{add-one}
use native.Mathlib.Omega.{arith}
use lib.Dec.{eqb}
use lib.ListN.{length, take, drop, get_or, length-map, get_or-map}
use borrow.Author.Tests.{eqb-true}
use Rattle.lists.specs.Lists.{keep, has, self, set_of}
use Rattle.lists.proofs.Tests.{or_false, or_assoc, or_left, or_right}
use Rattle.lists.proofs.Keep.{keep_same}
use Rattle.lists.proofs.Order.{ascending-include_all}
use Rattle.lists.proofs.Change.{new_include_known, new_include}
use Rattle.lists.proofs.Cuts.{rest_more, rest-none}
use Rattle.rules.specs.Plain.{Terms}
use Rattle.rules.specs.Words.{transaction_at, group_count, group_size, groups_at, record_groups, record_formed}
use Rattle.words.proofs.Groups.{groups_length, group-at, group_transaction_lem, reach, none}
use Rattle.batches.specs.Abandoned.{transactions, new_to}

-- one more of the front
has-take : (u : ℕ) (l : List ℕ) (i : ℕ) → i < length l → has self u (take (suc i) l) ≡ has self u (take i l) || eqb (get_or l i 0) u
has-take u [] i h = absurd (omega arith)
has-take u (x ∷ l) zero h = or_false (eqb x u)
has-take u (x ∷ l) (suc i) h = ap (λ b. eqb x u || b) (has-take u l i (omega arith)) ∙ sym (or_assoc (eqb x u) (has self u (take i l)) (eqb (get_or l i 0) u))

last_first : (a b c : Bool) → c || (a || b) ≡ a || (b || c)
last_first true b true = refl
last_first true b false = refl
last_first false true true = refl
last_first false true false = refl
last_first false false c = or_false c

-- those still to come
module _ (keys ts : List ℕ) where
  abbrev known : ℕ → ℕ → Bool
  known i u = has self u keys || has self u (take i ts)

  abbrev pub to_come : ℕ → ℕ
  to_come i = length (keep (λ u. not (known i u)) (set_of (drop i ts)))

  pub count_start : to_come 0 ≡ length (new_to keys ts)
  count_start = ap length (keep_same (λ u. not (known 0 u)) (λ u. not (has self u keys)) (set_of ts) (λ u _. ap not (or_false (has self u keys))))

  pub count-end : (i : ℕ) → length ts ≤ i → to_come i ≡ 0
  count-end i h = ap (λ m. length (keep (λ u. not (known i u)) (set_of m))) (rest-none ts i h)

  module _ (i : ℕ) (h : i < length ts) (t : ℕ) (q : t ≡ get_or ts i 0) where
    more : to_come i ≡ length (keep (λ u. not (known i u)) (set_of (t ∷ drop (i + 1) ts)))
    more = ap (λ m. length (keep (λ u. not (known i u)) (set_of m))) (rest_more 0 ts i h ∙ ap (λ x. x ∷ drop (i + 1) ts) (sym q))

    next : (u : ℕ) → eqb t u || known i u ≡ known (i + 1) u
    next u = last_first (has self u keys) (has self u (take i ts)) (eqb t u) ∙ ap (λ b. has self u keys || b) (ap (λ x. has self u (take i ts) || eqb x u) q ∙ sym (ap (λ k. has self u (take k ts)) (add-one i) ∙ has-take u ts i h))

    again : known i t ≡ true → to_come (i + 1) ≡ to_come i
    again k =
        sym
        (more
        ∙ ap length (new_include_known (known i) t (set_of (drop (i + 1) ts)) k)
        ∙ ap length (keep_same (λ u. not (known i u)) (λ u. not (known (i + 1) u)) (set_of (drop (i + 1) ts)) (λ u _. ap not (same u (eqb t u) refl ∙ next u))))
      where
        same : (u : ℕ) (b : Bool) → eqb t u ≡ b → known i u ≡ eqb t u || known i u
        same u true e = rw e (let z : t ≡ u = eqb-true t u e in rw z at k)
        same u false e = rw e

    pub turn_owed : has self t keys ≡ true → to_come (i + 1) ≡ to_come i
    turn_owed k = again (or_left (has self t keys) _ k)

    pub turn_earlier : has self t (take i ts) ≡ true → to_come (i + 1) ≡ to_come i
    turn_earlier k = again (or_right (has self t keys) _ k)

    pub turn_new : has self t keys ≡ false → has self t (take i ts) ≡ false → suc (to_come (i + 1)) ≡ to_come i
    turn_new k e =
        sym
        (more
        ∙ new_include (known i) t (set_of (drop (i + 1) ts)) (ascending-include_all self (drop (i + 1) ts) [] tt) (rw (k, e))
        ∙ ap (λ m. suc (length m)) (keep_same (λ u. not (eqb t u || known i u)) (λ u. not (known (i + 1) u)) (set_of (drop (i + 1) ts)) (λ u _. ap not (next u))))

-- the transactions of a well formed record
module _ (ws : List ℕ) (f : record_formed ws ≡ true) where
  pub transactions-length : length (transactions ws) ≡ group_count ws
  transactions-length = length-map (record_groups ws) (λ (g : Terms). g.transaction) ∙ groups_length ws f

  pub transaction-at : (i : ℕ) → i < group_count ws → transaction_at (groups_at ws + group_size ws * i) ws ≡ get_or (transactions ws) i 0
  transaction-at i h =
      sym (get_or-map (λ (g : Terms). g.transaction) (record_groups ws) i none ∙ ap (λ (g : Terms). g.transaction) (group-at ws f i h) ∙ group_transaction_lem ws i (reach ws f i))
