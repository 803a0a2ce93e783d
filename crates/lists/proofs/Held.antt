-- The list in the front of an array: how long it is, what stands at a place, what holds of each when one more is put behind, and how a list
-- comes together from what is still to come.
-- Assumes nothing.
use Prim.Native.Nat.{ℕ, zero, suc, ◌+◌, ◌<◌, ◌≤◌}
use mathlib.Core.Path.{◌≡◌, sym, ap, ◌∙◌}
use mathlib.Core.List.{List, [], ◌∷◌, ◌++◌, map, append-nil}
use native.Mathlib.Omega.{arith}
use lib.ListN.{length, drop, get_or, length-map}
use lib.Seq.{length-take-le, get_or-take, append_snoc}
use Rattle.lists.specs.Front.{held}
use Rattle.lists.proofs.Cuts.{rest_mapped, mapped-none}
use Rattle.lists.specs.declared.front.Front.{Front}

more : {A : Type 0} (P : ℕ → A → Type 0) (l : List A) (x : A) → ((k : ℕ) (d : A) → k < length l → P k (get_or l k d)) → P (length l) x →
    (k : ℕ) (d : A) → k < length l + 1 → P k (get_or (l ++ x ∷ []) k d)
more P [] x f p zero d h = p
more P [] x f p (suc k) d h = absurd (omega arith)
more P (y ∷ l) x f p zero d h = f 0 d (omega arith)
more P (y ∷ l) x f p (suc k) d h = more (λ j. P (suc j)) l x (λ j e u. f (suc j) e (omega arith)) p k d (omega arith)

module _ {A : Type 0} {n : ℕ} (f : Front A n) where
  pub held-length : length (held f) ≡ f.len
  held-length = length-take-le f.len f.items (omega (arith, f.room, f.size))

  -- as what each of its items stands for
  pub mapped-length : {B : Type 0} (g : A → B) → length (map g (held f)) ≡ f.len
  mapped-length g = length-map (held f) g ∙ held-length

  pub held_at : (k : ℕ) (d : A) → k < f.len → get_or (held f) k d ≡ get_or f.items k d
  held_at k d h = get_or-take f.len f.items k d h

  -- the next of those still to come in a slice of it, as what each stands for; and that none is left
  pub next_held : {B : Type 0} (g : A → B) (xs : List A) → xs ≡ held f → (i : ℕ) (d : A) → i < length xs →
      drop i (map g (held f)) ≡ g (get_or xs i d) ∷ drop (i + 1) (map g (held f))
  next_held g xs e i d h = rw e (rest_mapped g d (held f) i (rw e at h))

  pub none_held : {B : Type 0} (g : A → B) (xs : List A) → xs ≡ held f → (i : ℕ) → length xs ≤ i → drop i (map g (held f)) ≡ []
  none_held g xs e i h = mapped-none g (held f) i (rw e at h)

  pub each_pushed : (P : ℕ → A → Type 0) (x : A) (l : List A) → l ≡ held f ++ x ∷ [] → ((k : ℕ) (d : A) → k < f.len → P k (get_or (held f) k d)) → P f.len x →
      (k : ℕ) (d : A) → k < f.len + 1 → P k (get_or l k d)
  each_pushed P x l e old new k d h =
      rw e (more P (held f) x (λ j c u. old j c (omega (arith, held-length))) (rw held-length new) k d (omega (arith, held-length)))

-- A list that is filled one by one: those that it has and those still to come are the whole.
module _ {A : Type 0} (whole xs : List A) where
  pub left_out : (old new : List A) → old ≡ new → xs ++ old ≡ whole → xs ++ new ≡ whole
  left_out old new e h = ap (λ l. xs ++ l) (sym e) ∙ h

  pub put_behind : (x : A) (ys old new : List A) → old ≡ x ∷ new → ys ≡ xs ++ x ∷ [] → xs ++ old ≡ whole → ys ++ new ≡ whole
  put_behind x ys old new e p h = rw (p, append_snoc xs x new) (left_out old (x ∷ new) e h)

  pub all_put : (rest : List A) → rest ≡ [] → xs ++ rest ≡ whole → xs ≡ whole
  all_put rest e h = sym (append-nil xs) ∙ left_out rest [] e h
