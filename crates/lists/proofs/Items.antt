-- Items gone through, each changing a state and counting: what holds along the way; and a loop that does so, how far it is, its start, a
-- turn and its end.
-- Assumes nothing.
use Prim.Native.Nat.{ℕ, ◌+◌, ◌≤◌}
use mathlib.Core.Path.{◌≡◌, refl, sym, ap, ap₂, ◌∙◌}
use mathlib.Core.List.{List, [], ◌∷◌, ◌++◌}
use native.Mathlib.Omega.{arith}
use lib.ListN.{length, drop}
use Rattle.lists.specs.Lists.{through, tally, Every}
use Rattle.lists.proofs.Cuts.{rest-none}

-- Two lists of items, one after the other.
module _ {A S : Type 0} (f : A → S → S) where
  pub through-append : (l m : List A) (s : S) → through f (l ++ m) s ≡ through f m (through f l s)
  through-append [] m s = refl
  through-append (x ∷ l) m s = through-append l m (f x s)

  pub tally-append : (n : A → S → ℕ) (l m : List A) (s : S) → tally f n (l ++ m) s ≡ tally f n l s + tally f n m (through f l s)
  tally-append n [] m s = omega arith
  tally-append n (x ∷ l) m s = omega (arith, tally-append n l m (f x s))

-- Items of a kind P, gone through from a state of a kind I that each keeps.
module _ {A S : Type 0} (f : A → S → S) (P : A → Type 0) (I : S → Type 0) (keeps : (x : A) (s : S) → P x → I s → I (f x s)) where
  pub through_keeps : (l : List A) → Every P l → (s : S) → I s → I (through f l s)
  through_keeps [] v s i = i
  through_keeps (x ∷ l) v s i = through_keeps l v.1 (f x s) (keeps x s v.0 i)

  -- what no item changes
  pub through_same : {B : Type 0} (g : S → B) → ((x : A) (s : S) → P x → I s → g (f x s) ≡ g s) → (l : List A) → Every P l → (s : S) → I s →
      g (through f l s) ≡ g s
  through_same g e [] v s i = refl
  through_same g e (x ∷ l) v s i = through_same g e l v.1 (f x s) (keeps x s v.0 i) ∙ e x s v.0 i

  -- a part of the state on which each item does what it does to the whole, and counts what it counts on the whole
  module _ (g : S → S) (e : (x : A) (s : S) → P x → I s → g (f x s) ≡ f x (g s)) where
    pub through-part : (l : List A) → Every P l → (s : S) → I s → g (through f l s) ≡ through f l (g s)
    through-part [] v s i = refl
    through-part (x ∷ l) v s i = through-part l v.1 (f x s) (keeps x s v.0 i) ∙ ap (through f l) (e x s v.0 i)

    pub tally-part : (n : A → S → ℕ) → ((x : A) (s : S) → P x → I s → n x (g s) ≡ n x s) → (l : List A) → Every P l → (s : S) → I s →
        tally f n l (g s) ≡ tally f n l s
    tally-part n c [] v s i = refl
    tally-part n c (x ∷ l) v s i =
        ap₂ ◌+◌ (c x s v.0 i)
        (ap (tally f n l) (sym (e x s v.0 i)) ∙ tally-part n c l v.1 (f x s) (keeps x s v.0 i))

-- the items from i on do to the state in hand what all do to the first, and what was counted makes up the sum with what they count
pub record Through {A S : Type 0} (f : A → S → S) (n : A → S → ℕ) (items : List A) (s₀ s : S) (count i : ℕ) : Type 0 where
  pub state : through f (drop i items) s ≡ through f items s₀
  pub sum : count + tally f n (drop i items) s ≡ tally f n items s₀

module _ {A S : Type 0} (f : A → S → S) (n : A → S → ℕ) (items : List A) (s₀ : S) where
  pub before_first : Through f n items s₀ s₀ 0 0
  before_first = record { state = refl; sum = omega arith }

  pub one_more : (s t : S) (count c i : ℕ) (x : A) → Through f n items s₀ s count i → drop i items ≡ x ∷ drop (i + 1) items → t ≡ f x s → c ≡ n x s →
      Through f n items s₀ t (count + c) (i + 1)
  one_more s t count c i x v e q k =
      let rest = drop (i + 1) items in
      let all : n x s + tally f n rest (f x s) ≡ tally f n (drop i items) s = ap (λ l. tally f n l s) (sym e) in
      record {
        state = ap (through f rest) q ∙ ap (λ l. through f l s) (sym e) ∙ v.state;
        sum = omega (arith, k, ap (tally f n rest) q, all, v.sum);
      }

  pub after_last : (s : S) (count i : ℕ) → Through f n items s₀ s count i → length items ≤ i → (s ≡ through f items s₀) × (count ≡ tally f n items s₀)
  after_last s count i v h =
      let none = rest-none items i h in
      (rw none at v.state, omega (arith, v.sum, ap (λ l. tally f n l s) none))

  -- where each counts at most one, no more are counted than there are items
  pub tally-few : ((x : A) (s : S) → n x s ≤ 1) → (l : List A) (s : S) → tally f n l s ≤ length l
  tally-few one [] s = omega arith
  tally-few one (x ∷ l) s = omega (arith, one x s, tally-few one l (f x s))

  pub counted-few : ((x : A) (s : S) → n x s ≤ 1) → (s : S) (count i : ℕ) → Through f n items s₀ s count i → count ≤ length items
  counted-few one s count i v = omega (arith, v.sum, tally-few one items s₀)
