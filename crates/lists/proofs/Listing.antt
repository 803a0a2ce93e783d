-- Lists told word by word: how many words so many items take, a lent list written item by item, and what is left to be written.
-- Assumes nothing.
use Prim.Native.Nat.{ℕ, suc, ◌+◌, ◌*◌, ◌≤◌}
use mathlib.Core.Path.{◌≡◌, refl, ap}
use mathlib.Core.Bool.{Bool, true, false, ◌||◌}
use mathlib.Core.List.{List, [], ◌∷◌, ◌++◌}
use native.Mathlib.Omega.{arith}
use lib.ListN.{length, drop, set, length-append}
use lib.Seq.{sets, sets-eq}
use Rattle.lists.specs.Lists.{cons_if, keep, any, filled, concat_map}

-- something is kept where something passes
pub filled-kept : {A : Type 0} (q : A → Bool) (l : List A) → filled (keep q l) ≡ any q l
filled-kept q [] = refl
filled-kept {A} q (x ∷ l) = go (q x) (filled-kept q l)
  where
    go : (b : Bool) → filled (keep q l) ≡ any q l → filled (cons_if b x (keep q l)) ≡ b || any q l
    go true ih = refl
    go false ih = ih

-- items of n words each
pub length-words : {A B : Type 0} (f : A → List B) (n : ℕ) → ((x : A) → length (f x) ≡ n) → (l : List A) → length (concat_map f l) ≡ n * length l
length-words f n h [] = omega arith
length-words f n h (x ∷ l) = rw (length-append (f x) (concat_map f l), h x, length-words f n h l) (omega arith)

-- what is written in two runs, one after the other
pub sets_append : {A : Type 0} (l : List A) (i : ℕ) (a b : List A) → sets (sets l i a) (i + length a) b ≡ sets l i (a ++ b)
sets_append l i [] b = ap (λ n. sets l n b) (omega arith)
sets_append l i (x ∷ a) b =
    let e : i + suc (length a) ≡ suc i + length a = omega arith in
    rw e (sets_append (set l i x) (suc i) a b)

-- what is written from the front on
pub sets_front : {A : Type 0} (l vs : List A) → length vs ≤ length l → sets l 0 vs ≡ vs ++ drop (length vs) l
sets_front l vs h =
    let e : 0 + length vs ≡ length vs = omega arith in
    rw e at (sets-eq vs l 0 (omega arith))

-- of what is still to come, the next passes or does not
pub next-kept : {A : Type 0} (p : A → Bool) (x : A) (l m : List A) → l ≡ x ∷ m → p x ≡ true → keep p l ≡ x ∷ keep p m
next-kept p x l m e t = rw (e, t)

pub next-left : {A : Type 0} (p : A → Bool) (x : A) (l m : List A) → l ≡ x ∷ m → p x ≡ false → keep p l ≡ keep p m
next-left p x l m e t = rw (e, t)
