-- The grammar of a line: its tokens, the numbers behind its name, and the lent count.
-- Assumes nothing.
use Rattle.std.specs.Prelude.{ℕ, zero, suc, ◌+◌, ◌≤◌, Bool, true, false, cond, List, [], ◌∷◌, leb, ltb, eqb, Option, Some, None, IfSome}
use Rattle.script.specs.declared.parts.Tail.{Tail}
use Rattle.script.specs.Decimal.{number_of}
use Rattle.script.specs.Texts.{bytes, same_text}

-- an empty line, and one that begins with `#`
abbrev pub is_remark : List ℕ → Bool
is_remark [] = true
is_remark (b ∷ l) = eqb b 35

abbrev pub onto : ℕ → List (List ℕ) → List (List ℕ)
onto b [] = (b ∷ []) ∷ []
onto b (t ∷ ts) = (b ∷ t) ∷ ts

-- the tokens of a text, which a space parts
unfoldable pub tokens : List ℕ → List (List ℕ)
tokens [] = [] ∷ []
tokens (b ∷ l) = cond (eqb b 32) ([] ∷ tokens l) (onto b (tokens l))

-- how many bytes stand before the first that is `end`
unfoldable pub up_to : ℕ → List ℕ → ℕ
up_to end [] = zero
up_to end (b ∷ l) = cond (eqb b end) zero (suc (up_to end l))

-- how long the first token is
abbrev pub word_length : List ℕ → ℕ
word_length l = up_to 32 l

-- the tokens behind a first one, of a text that begins where it ends: at a space, or at the end
unfoldable pub behind : List ℕ → List (List ℕ)
behind [] = []
behind (b ∷ l) = tokens l

abbrev pub lent_text : List ℕ
lent_text = bytes "lent"

-- the lent count behind k numbers: 0 to 8,192, and the last token
abbrev pub lent_number : ℕ → ℕ → Option Tail
lent_number k n = cond (leb n 8192) (Some (record { count = k; lent = Some n })) None

abbrev pub lent_then : ℕ → Option ℕ → Option Tail
lent_then k (Some n) = lent_number k n
lent_then k None = None

unfoldable pub lent_of : ℕ → List (List ℕ) → Option Tail
lent_of k [] = None
lent_of k (t ∷ []) = lent_then k (number_of t)
lent_of k (t ∷ u ∷ ts) = None

abbrev pub onward : Option ℕ → Bool → Option Tail → Option Tail
onward (Some n) true r = r
onward (Some n) false r = None
onward None t r = None

-- the tokens behind a name and k numbers: numbers, 8,192 in all at most, and the lent count
unfoldable pub tail_of : ℕ → List (List ℕ) → Option Tail
unfolding lent_of
tail_of k [] = Some (record { count = k; lent = None })
tail_of k (t ∷ ts) = cond (same_text t lent_text) (lent_of k ts) (onward (number_of t) (ltb k 8192) (tail_of (k + 1) ts))

-- what stands behind a name within bounds
abbrev pub Small : Tail → Type 0
Small t = (t.count ≤ 8192) × IfSome t.lent (λ n. n ≤ 8192)

abbrev pub number_then : Option ℕ → List ℕ → List ℕ
number_then (Some n) l = n ∷ l
number_then None l = []

-- the numbers behind a name, up to the first token that is none
unfoldable pub numbers_of : List (List ℕ) → List ℕ
numbers_of [] = []
numbers_of (t ∷ ts) = cond (same_text t lent_text) [] (number_then (number_of t) (numbers_of ts))
