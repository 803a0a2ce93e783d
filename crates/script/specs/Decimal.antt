-- Numbers in base ten: what a token says, and how a number is spelled.
-- Assumes nothing.
use Rattle.std.specs.Prelude.{ℕ, zero, suc, ◌+◌, ◌*◌, ◌-◌, ◌/◌, ◌%◌, Bool, true, false, cond, List, [], ◌∷◌, ◌++◌, ltb, Option, Some, None}
use Rattle.std.specs.Char.{is_ascii_digit}

abbrev pub is_digit : ℕ → Bool
is_digit b = is_ascii_digit b

unfoldable pub all_digits : List ℕ → Bool
all_digits [] = true
all_digits (b ∷ l) = cond (is_digit b) (all_digits l) false

-- the number that v becomes with the digits of l behind it
unfoldable pub worth : ℕ → List ℕ → ℕ
worth v [] = v
worth v (b ∷ l) = worth (v * 10 + (b - 48)) l

-- a number where the test holds
abbrev pub is_when : Bool → ℕ → Option ℕ
is_when true v = Some v
is_when false v = None

-- v with the digits of l behind it: a number where all of l are digits and it is below 2^64
unfoldable pub valued : ℕ → List ℕ → Option ℕ
unfolding all_digits worth
valued v l = is_when (cond (all_digits l) (ltb (worth v l) 18446744073709551616) false) (worth v l)

-- a token is a number where it has one digit or more and nothing else, and is below 2^64
unfoldable pub number_of : List ℕ → Option ℕ
number_of [] = None
number_of (b ∷ l) = valued 0 (b ∷ l)

-- a number's digits, the last k of them at most, without leading zeros
unfoldable pub spelled : ℕ → ℕ → List ℕ
spelled zero n = []
spelled (suc k) n = cond (ltb n 10) ((48 + n) ∷ []) (spelled k (n / 10) ++ ((48 + n % 10) ∷ []))
