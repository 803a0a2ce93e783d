-- Laws of tokens: the first token of a text and what stands behind it, one number more, and the lent count.
-- Assumes nothing.
use Prim.Native.Nat.{ℕ, zero, suc, ◌+◌, ◌≤◌, ◌<◌}
use mathlib.Core.Path.{◌≡◌, refl, sym, ap, ◌∙◌}
use mathlib.Core.Bool.{Bool, true, false, cond}
use mathlib.Core.List.{List, [], ◌∷◌, ◌++◌, append_assoc, append-nil}
use native.Mathlib.Omega.{arith}
use native.Mathlib.Numerals.{add-one}
use lib.Dec.{eqb, ltb, leb}
use lib.ListN.{length, take, drop, set}
use lib.Seq.{take-suc-set}
use borrow.Author.Tests.{leb-true, ltb-true, lt-ltb, le-ltb}
use Rattle.std.specs.Prelude.{◌==◌, Option, Some, None, IfSome}
use Rattle.std.specs.List.{position_or_len}
use Rattle.std.proofs.lemmas.List.{length-drop}
use Rattle.std.proofs.lemmas.List.Recursion.{is_position_or_len}
use Rattle.std.proofs.lemmas.List.Sums.{prefix_len-le-length}
use Rattle.std.proofs.lemmas.Option.{IfSome_then}
use Rattle.script.specs.declared.parts.Tail.{Tail}
use Rattle.script.specs.Decimal.{number_of}
use Rattle.script.specs.Texts.{same_text}
use Rattle.script.specs.Grammar.{onto, tokens, up_to, word_length, behind, lent_then, lent_of, onward, tail_of, lent_text, Small, numbers_of}

one_more : (n : ℕ) → suc n ≡ 1 + n
one_more n = omega arith

-- how many bytes stand before one is where it stands, or the length
pub up_to_place : (byte : ℕ) (l : List ℕ) → up_to byte l ≡ position_or_len (λ b. b == byte) l
unfolding up_to
up_to_place byte l = is_position_or_len (up_to byte) (λ b. b == byte) refl (λ x xs. ap (λ n. cond (x == byte) 0 n) (one_more (up_to byte xs))) l

pub up_to_counted : (byte : ℕ) (l : List ℕ) (r : ℕ) → r ≡ position_or_len (λ b. b == byte) l → (r ≤ length l) × (r ≡ up_to byte l)
up_to_counted byte l r e = rw (e, up_to_place byte l) (prefix_len-le-length _ l, refl)

-- a text is its first token and what stands behind it
pub cut : (l : List ℕ) → tokens l ≡ take (word_length l) l ∷ behind (drop (word_length l) l)
unfolding tokens up_to behind
cut [] = refl
cut (b ∷ l) = cut' (eqb b 32) b l (cut l)
  where
    cut' : (t : Bool) (b : ℕ) (l : List ℕ) → tokens l ≡ take (word_length l) l ∷ behind (drop (word_length l) l) →
        cond t ([] ∷ tokens l) (onto b (tokens l)) ≡ take (cond t zero (suc (word_length l))) (b ∷ l) ∷ behind (drop (cond t zero (suc (word_length l))) (b ∷ l))
    cut' true b l e = refl
    cut' false b l e = ap (onto b) e

-- the token behind a text's first byte, and none behind an empty text
pub next_token : (text l t r : List ℕ) (b : ℕ) → text ≡ b ∷ l → t ≡ take (word_length l) l → r ≡ drop (word_length l) l → behind text ≡ t ∷ behind r
unfolding behind
next_token text l t r b e p q = rw (e, p, q) (cut l)

pub next_shorter : (text l r : List ℕ) (b : ℕ) → text ≡ b ∷ l → r ≡ drop (word_length l) l → length r < length text
next_shorter text l r b e q = rw (e, q, length-drop (word_length l) l) (omega arith)

pub behind_none : (text : List ℕ) → length text ≡ 0 → behind text ≡ []
unfolding behind
behind_none [] h = refl
behind_none (b ∷ l) h = absurd (omega arith)

-- the lent count: none, one token, two tokens or more
pub lent_none : (k : ℕ) (ts : List (List ℕ)) → ts ≡ [] → None ≡ lent_of k ts
unfolding lent_of
lent_none k ts e = rw e refl

pub lent_one : (k : ℕ) (text t rest : List ℕ) → behind text ≡ t ∷ behind rest → length rest ≡ 0 → lent_then k (number_of t) ≡ lent_of k (behind text)
unfolding lent_of
lent_one k text t rest e h = rw (e, behind_none rest h) refl

pub lent_several : (k : ℕ) (text t rest : List ℕ) → behind text ≡ t ∷ behind rest → (length rest ≡ 0 → ⊥) → None ≡ lent_of k (behind text)
unfolding lent_of behind
lent_several k text t [] e h = absurd (h refl)
lent_several k text t (b ∷ l) e h = rw (e, cut l) refl

-- what stands behind a name is within bounds
number_small : (k : ℕ) (x : Option ℕ) → k ≤ 8192 → IfSome (lent_then k x) Small
number_small k None h = tt
number_small k (Some n) h = pick (leb n 8192) refl
  where
    pick : (t : Bool) → t ≡ leb n 8192 → IfSome (cond t (Some (record { count = k; lent = Some n })) None) Small
    pick true e = (h, leb-true n 8192 (sym e))
    pick false e = tt

lent-small : (k : ℕ) (ts : List (List ℕ)) → k ≤ 8192 → IfSome (lent_of k ts) Small
unfolding lent_of
lent-small k [] h = tt
lent-small k (t ∷ []) h = number_small k (number_of t) h
lent-small k (t ∷ u ∷ ts) h = tt

on_small : (x : Option ℕ) (t : Bool) (r : Option Tail) → (t ≡ true → IfSome r Small) → IfSome (onward x t r) Small
on_small (Some n) true r h = h refl
on_small (Some n) false r h = tt
on_small None t r h = tt

cond_small : (t : Bool) (a b : Option Tail) → IfSome a Small → IfSome b Small → IfSome (cond t a b) Small
cond_small true a b x y = x
cond_small false a b x y = y

tail_small : (k : ℕ) (ts : List (List ℕ)) → k ≤ 8192 → IfSome (tail_of k ts) Small
unfolding tail_of
tail_small k [] h = (h, tt)
tail_small k (t ∷ ts) h =
    cond_small (same_text t lent_text) _ _ (lent-small k ts h)
    (on_small (number_of t) (ltb k 8192) (tail_of (k + 1) ts) (λ e. tail_small (k + 1) ts (omega (arith, ltb-true k 8192 e))))

pub small : (t : Tail) (ts : List (List ℕ)) → Some t ≡ tail_of 0 ts → Small t
small t ts e = let h = tail_small 0 ts (omega arith) in rw (← e) at h

-- one token more
module _ (ts us : List (List ℕ)) (t : List ℕ) (e : ts ≡ t ∷ us) where
  pub tail_lent : (k : ℕ) → true ≡ same_text t lent_text → tail_of k ts ≡ lent_of k us
  unfolding tail_of
  tail_lent k s = ap (tail_of k) e ∙ rw (← s) refl

  pub numbers-lent : true ≡ same_text t lent_text → numbers_of ts ≡ []
  unfolding numbers_of
  numbers-lent s = ap numbers_of e ∙ rw (← s) refl

  pub tail_number : (k n : ℕ) → false ≡ same_text t lent_text → Some n ≡ number_of t → k < 8192 → tail_of k ts ≡ tail_of (k + 1) us
  unfolding tail_of
  tail_number k n s x b = ap (tail_of k) e ∙ rw (← s, ← x, lt-ltb k 8192 b) refl

  pub numbers_number : (n : ℕ) → false ≡ same_text t lent_text → Some n ≡ number_of t → numbers_of ts ≡ n ∷ numbers_of us
  unfolding numbers_of
  numbers_number n s x = ap numbers_of e ∙ rw (← s, ← x) refl

  pub tail_not : (k : ℕ) → false ≡ same_text t lent_text → None ≡ number_of t → tail_of k ts ≡ None
  unfolding tail_of
  tail_not k s x = ap (tail_of k) e ∙ rw (← s, ← x) refl

  pub tail_many : (k n : ℕ) → false ≡ same_text t lent_text → Some n ≡ number_of t → 8192 ≤ k → tail_of k ts ≡ None
  unfolding tail_of
  tail_many k n s x b = ap (tail_of k) e ∙ rw (← s, ← x, le-ltb k 8192 b) refl

-- no token more
pub tail_end : (ts : List (List ℕ)) (k : ℕ) → ts ≡ [] → tail_of k ts ≡ Some (record { count = k; lent = None })
unfolding tail_of
tail_end ts k e = rw e refl

pub numbers-end : (ts : List (List ℕ)) → ts ≡ [] → numbers_of ts ≡ []
unfolding numbers_of
numbers-end ts e = rw e refl

-- a lent count has the numbers before it
lent-count : (k : ℕ) (ts : List (List ℕ)) → IfSome (lent_of k ts) (λ t. t.count ≡ k)
unfolding lent_of
lent-count k [] = tt
lent-count k (t ∷ []) = one (number_of t)
  where
    pick : (n : ℕ) (t : Bool) → IfSome (cond t (Some (record { count = k; lent = Some n })) None) (λ (t : Tail). t.count ≡ k)
    pick n true = refl
    pick n false = tt

    one : (x : Option ℕ) → IfSome (lent_then k x) (λ t. t.count ≡ k)
    one (Some n) = pick n (leb n 8192)
    one None = tt
lent-count k (t ∷ u ∷ ts) = tt

-- one number stored, and none left
pub stored_number : (numbers : List ℕ) (k n : ℕ) (rest rest' all : List ℕ) → k < length numbers → rest ≡ n ∷ rest' → take k numbers ++ rest ≡ all →
    take (k + 1) (set numbers k n) ++ rest' ≡ all
stored_number numbers k n rest rest' all h e p = rw (add-one, take-suc-set, append_assoc) (ap (λ (m : List ℕ). take k numbers ++ m) (sym e) ∙ p)

pub all_stored : (numbers rest all : List ℕ) (k : ℕ) → rest ≡ [] → take k numbers ++ rest ≡ all → take k numbers ≡ all
all_stored numbers rest all k e p = sym (append-nil (take k numbers)) ∙ ap (λ (m : List ℕ). take k numbers ++ m) (sym e) ∙ p

pub lent_stored : (numbers rest all : List ℕ) (k : ℕ) (ts : List (List ℕ)) (r : Option Tail) → r ≡ lent_of k ts → rest ≡ [] → take k numbers ++ rest ≡ all →
    IfSome r (λ t. take t.count numbers ≡ all)
lent_stored numbers rest all k ts r q e p = rw q (IfSome_then (lent_of k ts) (lent-count k ts) (λ t m. rw m (all_stored numbers rest all k e p)))
