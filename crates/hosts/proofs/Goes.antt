-- What goes out: a refused call's number alone, or the ledger's snapshot and what is told beside it, each in the front of its slice.
-- Assumes nothing.
use Prim.Native.Nat.{ℕ, zero, suc, ◌*◌, ◌≤◌, ◌<◌}
use mathlib.Core.Path.{◌≡◌, refl, sym, ap, ◌∙◌, subst}
use mathlib.Core.List.{List, [], ◌∷◌, ◌++◌}
use native.Mathlib.Omega.{arith}
use lib.ListN.{length, drop}
use borrow.Author.Tests.{lt-ltb, le-ltb}
use Rattle.rules.specs.Plain.{Plain}
use Rattle.rules.specs.Good.{Good}
use Rattle.rules.specs.Snapshot.{snapshot_words}
use Rattle.types.specs.declared.refusal.Refusal.{Refusal}
use Rattle.types.specs.Refusals.{refusal_number}
use Rattle.ledger.specs.Meets.{written}
use Rattle.ledger.proofs.Meeting.{numbered}
use Rattle.word_bytes.specs.Bytes.{bytes_of}
use Rattle.word_bytes.proofs.Bytes.{length_bytes}
use Rattle.hosts.proofs.Comes.{comes_again}
use Rattle.hosts.specs.Hosts.{Given, giving, restoring_bytes, ledger_bytes, handing, Gives, ComesAgain}

-- a refusal has a number above 0
pub is_refused : (r : Refusal) → 1 ≤ refusal_number r
is_refused r = omega (arith, (numbered r).1)

-- its number alone
pub turned_down : (n r : ℕ) (p : Plain) (told : List ℕ) (a b : ℕ) (out reports : List ℕ) → 1 ≤ n → r ≡ n → Gives (handing n p told a b) out out reports reports r
turned_down zero r p told a b out reports h e = absurd (omega (arith, h))
turned_down (suc n) r p told a b out reports h e =
    let none : handing (suc n) p told a b ≡ record { number = suc n; out = []; reports = [] } = rw (lt-ltb 0 (suc n) (omega arith)) refl in
    subst (λ g. Gives g out out reports reports r) (sym none) (record { number = e; wrote = refl; told = refl })

-- whether both slices hold their bytes
module _ (p : Plain) (told : List ℕ) (a b : ℕ) where
  size : length (ledger_bytes p) ≡ 8 * length (snapshot_words p)
  size = length_bytes (snapshot_words p)

  pub handed : 8 * length (snapshot_words p) ≤ a → 8 * length told ≤ b →
      handing 0 p told a b ≡ record { number = 0; out = ledger_bytes p; reports = bytes_of told }
  handed h k =
      rw (
        le-ltb a (length (ledger_bytes p)) (omega (arith, h, size)),
        le-ltb b (length (bytes_of told)) (omega (arith, k, length_bytes told)),
      ) refl

  pub out_short : a < 8 * length (snapshot_words p) → handing 0 p told a b ≡ record { number = 9; out = []; reports = [] }
  out_short h = rw (lt-ltb a (length (ledger_bytes p)) (omega (arith, h, size))) refl

  pub reports_short : 8 * length (snapshot_words p) ≤ a → b < 8 * length told → handing 0 p told a b ≡ record { number = 9; out = []; reports = [] }
  reports_short h k =
      rw (
        le-ltb a (length (ledger_bytes p)) (omega (arith, h, size)),
        lt-ltb b (length (bytes_of told)) (omega (arith, k, length_bytes told)),
      ) refl

-- words whose bytes are put to the front
pub put_written : (ws put out : List ℕ) → put ≡ ws → bytes_of put ++ drop (8 * length put) out ≡ written (bytes_of ws) out
put_written ws put out e = rw e (ap (λ n. bytes_of ws ++ drop n out) (sym (length_bytes ws)))

-- what goes out of one ledger goes out of the same
pub as_handed : (n : ℕ) (p q : Plain) (told list : List ℕ) (a b : ℕ) (out after reports reports_after : List ℕ) (r : ℕ) → n ≡ 0 → q ≡ p → list ≡ told →
    Gives (handing 0 q list a b) out after reports reports_after r → Gives (handing n p told a b) out after reports reports_after r
as_handed n p q told list a b out after reports reports_after r e f t g =
    let same : handing 0 q list a b ≡ handing n p told a b = rw (e, f, t) refl in
    subst (λ h. Gives h out after reports reports_after r) same g

-- a slice of no bytes, before and after
pub no_bytes : (g : Given) (out after list : List ℕ) (r : ℕ) → length list ≡ 0 → Gives g out after [] list r → Gives g out after [] [] r
no_bytes g out after [] r e h = h
no_bytes g out after (x ∷ list) r e h = absurd (omega (arith, e))

-- the bytes that came in, which are the ledger's snapshot, go out as they are
module _ (n : ℕ) (p : Plain) (bytes out : List ℕ) (e : n ≡ 0) (f : ledger_bytes p ≡ bytes) where
  long : 8 * length (snapshot_words p) ≡ length bytes
  long = sym (length_bytes (snapshot_words p)) ∙ ap length f

  pub copied : (copy : List ℕ) → length bytes ≤ length out → copy ≡ bytes → Gives (handing n p [] (length out) 0) out (copy ++ drop (length bytes) out) [] [] 0
  unfolding bytes_of
  copied copy h c =
      let fits = handed p [] (length out) 0 (omega (arith, long, h)) (omega arith) in
      let told : handing n p [] (length out) 0 ≡ record { number = 0; out = bytes; reports = [] } = rw (e, fits, f) refl in
      subst (λ g. Gives g out (copy ++ drop (length bytes) out) [] [] 0) (sym told) (record { number = refl; wrote = rw c refl; told = refl })

  pub not_copied : (r : ℕ) → length out < length bytes → r ≡ 9 → Gives (handing n p [] (length out) 0) out out [] [] r
  not_copied r h c =
      let short = out_short p [] (length out) 0 (omega (arith, long, h)) in
      let told : handing n p [] (length out) 0 ≡ record { number = 9; out = []; reports = [] } = rw (e, short) refl in
      subst (λ g. Gives g out out [] [] r) (sym told) (record { number = c; wrote = refl; told = refl })

-- what goes out of an accepted call comes in again
out_of : (n : ℕ) (out told : List ℕ) → (giving n out told).number ≡ 0 → (giving n out told).out ≡ out
out_of zero out told e = refl
out_of (suc n) out told e = absurd (omega (arith, e))

pub goes_and_comes : (n : ℕ) (p : Plain) (told : List ℕ) (a b : ℕ) (out after reports reports_after : List ℕ) (r : ℕ) → Good p →
    Gives (handing n p told a b) out after reports reports_after r → ComesAgain (handing n p told a b) p r
goes_and_comes n p told a b out after reports reports_after r g h e =
    ap restoring_bytes (out_of _ (ledger_bytes p) (bytes_of told) (sym h.number ∙ e)) ∙ comes_again p g
