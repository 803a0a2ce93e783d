-- Laws of numbers in base ten: one digit more of a token, and one digit more of a number spelled.
-- Assumes nothing.
use Prim.Native.Nat.{ℕ, zero, suc, ◌+◌, ◌*◌, ◌-◌, ◌/◌, ◌%◌, ◌^◌, ◌≤◌, ◌<◌}
use mathlib.Core.Path.{◌≡◌, refl, sym, ap, ◌∙◌}
use mathlib.Core.Bool.{Bool, true, false, cond}
use mathlib.Core.List.{List, [], ◌∷◌, ◌++◌, append_assoc}
use native.Mathlib.Omega.{arith}
use native.Mathlib.Nat.{div-lt_iff_lt-mul, pow-suc}
use lib.Dec.{ltb}
use lib.ListN.{length, drop, get_or, set, drop_of_length-le}
use lib.Seq.{drop-cons}
use borrow.Author.Tests.{le-leb, le-ltb, lt-ltb, ltb-true, ltb-false}
use Rattle.std.specs.Prelude.{Option, Some, None}
use Rattle.std.specs.Option.{SomeIff}
use Rattle.std.proofs.lemmas.Bool.Decides.{nat_tests}
use Rattle.script.specs.Decimal.{is_digit, all_digits, worth, is_when, valued, number_of, spelled}

-- more digits never make a number smaller
pub grows : (v : ℕ) (l : List ℕ) → v ≤ worth v l
unfolding worth
grows v [] = omega arith
grows v (b ∷ l) = omega (arith, grows (v * 10 + (b - 48)) l)

in_range : (b : ℕ) → true ≡ is_digit b → (48 ≤ b) × (b ≤ 57)
in_range b h = grind (arith, nat_tests)

pub no_digit : (v b : ℕ) (l : List ℕ) → false ≡ is_digit b → None ≡ valued v (b ∷ l)
unfolding valued all_digits
no_digit v b l h = rw (← h) refl

-- a digit d that fits, and one that does not
pub fits : (v b d : ℕ) → 48 ≤ b → b ≤ 57 → d ≡ b - 48 → v * 10 + d < 18446744073709551616 → Some (v * 10 + d) ≡ valued v (b ∷ [])
unfolding valued all_digits worth
fits v b d lo hi e h = rw e (simp (le-leb 48 b lo, le-leb b 57 hi, lt-ltb (v * 10 + (b - 48)) 18446744073709551616 (omega arith)))

pub over : (v b d : ℕ) → 48 ≤ b → b ≤ 57 → d ≡ b - 48 → 18446744073709551616 ≤ v * 10 + d → None ≡ valued v (b ∷ [])
unfolding valued all_digits worth
over v b d lo hi e h = simp (le-leb 48 b lo, le-leb b 57 hi, le-ltb (v * 10 + (b - 48)) 18446744073709551616 (omega arith))

-- a digit put behind a number that ten times is too large, and behind one that is not
pub too_large : (v b : ℕ) → true ≡ is_digit b → (v * 10 < 18446744073709551616 → ⊥) → None ≡ valued v (b ∷ [])
too_large v b t h = let d = in_range b t in over v b (b - 48) d.0 d.1 refl (omega (arith, h))

pub added : (v b d : ℕ) (r : Option ℕ) → true ≡ is_digit b → d ≡ b - 48 → SomeIff r (v * 10 + d < 18446744073709551616) (v * 10 + d) → r ≡ valued v (b ∷ [])
added v b d (Some x) t e h = let k = in_range b t in rw h.1 (fits v b d k.0 k.1 e h.0)
added v b d None t e h = let k = in_range b t in over v b d k.0 k.1 e (omega (arith, h))

-- what a digit taken says of the digits behind it
is-step : (t u : Bool) (x w : ℕ) (l : List ℕ) → u ≡ ltb x 18446744073709551616 → Some w ≡ is_when (cond (cond t true false) u false) x →
    (is_when (cond (cond t (all_digits l) false) (ltb (worth x l) 18446744073709551616) false) (worth x l) ≡ valued w l) × (w < 18446744073709551616)
unfolding valued
is-step true true x w l b e = let p : w ≡ x = cc in (rw p refl, rw p (ltb-true x 18446744073709551616 (sym b)))
is-step true false x w l b e = let z : ◌≡◌ {A = ℕ} 0 1 = cc in absurd (omega arith)
is-step false u x w l b e = let z : ◌≡◌ {A = ℕ} 0 1 = cc in absurd (omega arith)

none : (t : Bool) → cond t false false ≡ false
none true = refl
none false = refl

not_step : (t u : Bool) (x : ℕ) (l : List ℕ) → u ≡ ltb x 18446744073709551616 → None ≡ is_when (cond (cond t true false) u false) x →
    is_when (cond (cond t (all_digits l) false) (ltb (worth x l) 18446744073709551616) false) (worth x l) ≡ None
not_step true true x l b e = let z : ◌≡◌ {A = ℕ} 0 1 = cc in absurd (omega arith)
not_step true false x l b e =
    simp (le-ltb (worth x l) 18446744073709551616 (omega (arith, ltb-false x 18446744073709551616 (sym b), grows x l)), none (all_digits l))
not_step false u x l b e = refl

pub taken : (v b w : ℕ) (l : List ℕ) → Some w ≡ valued v (b ∷ []) → (valued v (b ∷ l) ≡ valued w l) × (w < 18446744073709551616)
unfolding valued all_digits worth
taken v b w l e = is-step (is_digit b) (ltb (v * 10 + (b - 48)) 18446744073709551616) (v * 10 + (b - 48)) w l refl e

pub refused : (v b : ℕ) (l : List ℕ) → None ≡ valued v (b ∷ []) → valued v (b ∷ l) ≡ None
unfolding valued all_digits worth
refused v b l e = not_step (is_digit b) (ltb (v * 10 + (b - 48)) 18446744073709551616) (v * 10 + (b - 48)) l refl e

-- at the end of a token
pub done : (v : ℕ) → v < 18446744073709551616 → valued v [] ≡ Some v
unfolding valued all_digits worth
done v h = simp (lt-ltb v 18446744073709551616 h)

-- at its start
pub start : (l : List ℕ) → (length l ≡ 0 → ⊥) → valued 0 l ≡ number_of l
unfolding number_of
start [] h = absurd (h refl)
start (b ∷ l) h = refl

pub no_token : (l : List ℕ) → length l ≡ 0 → None ≡ number_of l
unfolding number_of
no_token [] h = refl
no_token (b ∷ l) h = absurd (omega arith)

-- a number that a token's first i digits make: the next byte is a digit that fits, or not, or none is left
module _ (l : List ℕ) (i v : ℕ) (rest : valued v (drop i l) ≡ number_of l) where
  pub at-taken : (w : ℕ) → i < length l → Some w ≡ valued v (get_or l i 0 ∷ []) → (valued w (drop (suc i) l) ≡ number_of l) × (w < 18446744073709551616)
  at-taken w h e =
      let q : (valued v (get_or l i 0 ∷ drop (suc i) l) ≡ valued w (drop (suc i) l)) × (w < 18446744073709551616) = taken v (get_or l i 0) w (drop (suc i) l) e in
      (sym q.0 ∙ sym (ap (valued v) (drop-cons l i 0 h)) ∙ rest, q.1)

  pub at-refused : i < length l → None ≡ valued v (get_or l i 0 ∷ []) → None ≡ number_of l
  at-refused h e = sym (refused v (get_or l i 0) (drop (suc i) l) e) ∙ sym (ap (valued v) (drop-cons l i 0 h)) ∙ rest

  pub at-end : length l ≤ i → v < 18446744073709551616 → Some v ≡ number_of l
  at-end h b = sym (done v b) ∙ sym (ap (valued v) (drop_of_length-le l h)) ∙ rest

-- a store at k, seen from k on
pub stored : (l : List ℕ) (k a : ℕ) → k < length l → drop k (set l k a) ≡ a ∷ drop (suc k) l
stored [] k a h = absurd (omega arith)
stored (x ∷ l) zero a h = refl
stored (x ∷ l) (suc k) a h = stored l k a (omega arith)

-- a number of two digits or more has two places or more, and a tenth of it one place fewer
pub places : (r k : ℕ) → 10 ≤ r → r < 10 ^ k → 2 ≤ k
places r zero h b = let q : r < 1 = b in absurd (omega arith)
places r (suc zero) h b = let q : r < 10 = b in absurd (omega arith)
places r (suc (suc k)) h b = omega arith

tenth' : (r k : ℕ) → r < 10 ^ suc k → r / 10 < 10 ^ k
tenth' r k b = (div-lt_iff_lt-mul {k = 10} {x = r} {y = 10 ^ k} (omega arith)).1 (rw pow-suc at b)

pub tenth : (r k : ℕ) → 1 ≤ k → r < 10 ^ k → r / 10 < 10 ^ (k - 1)
tenth r zero h b = absurd (omega arith)
tenth r (suc k) h b = let e : suc k - 1 ≡ k = omega arith in rw e (tenth' r k b)

-- the last digit of what is left goes in front of the digits put, and so does the first digit of all
more' : (out : List ℕ) (k r d : ℕ) → k < length out → 10 ≤ r → d ≡ 48 + r % 10 →
    spelled k (r / 10) ++ drop k (set out k d) ≡ spelled (suc k) r ++ drop (suc k) out
unfolding spelled
more' out k r d h t e =
    ap (λ l. spelled k (r / 10) ++ l) (stored out k d h) ∙ rw (le-ltb r 10 t, ← e) (sym (append_assoc (spelled k (r / 10)) (d ∷ []) (drop (suc k) out)))

pub more : (out : List ℕ) (k r d : ℕ) (whole : List ℕ) → 1 ≤ k → k ≤ length out → 10 ≤ r → d ≡ 48 + r % 10 →
    spelled k r ++ drop k out ≡ whole → spelled (k - 1) (r / 10) ++ drop (k - 1) (set out (k - 1) d) ≡ whole
more out zero r d whole h l t e p = absurd (omega arith)
more out (suc k) r d whole h l t e p = let q : suc k - 1 ≡ k = omega arith in rw q (more' out k r d (omega arith) t e ∙ p)

last' : (out : List ℕ) (k r d : ℕ) → k < length out → r < 10 → d ≡ 48 + r → drop k (set out k d) ≡ spelled (suc k) r ++ drop (suc k) out
unfolding spelled
last' out k r d h t e = stored out k d h ∙ rw (lt-ltb r 10 t, e) refl

pub last : (out : List ℕ) (k r d : ℕ) (whole : List ℕ) → 1 ≤ k → k ≤ length out → r < 10 → d ≡ 48 + r →
    spelled k r ++ drop k out ≡ whole → drop (k - 1) (set out (k - 1) d) ≡ whole
last out zero r d whole h l t e p = absurd (omega arith)
last out (suc k) r d whole h l t e p = let q : suc k - 1 ≡ k = omega arith in rw q (last' out k r d (omega arith) t e ∙ p)
