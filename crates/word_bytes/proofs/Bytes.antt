-- Words as bytes and back, both ways round: how many bytes words are, and the words that they are again; bytes read as words, and these as
-- bytes again.
-- Assumes nothing.
use Prim.Native.Nat.{ℕ, suc, ◌+◌, ◌*◌, ◌/◌, ◌%◌, ◌^◌, ◌<◌}
use mathlib.Core.Path.{◌≡◌, refl, sym, ap, ap₂, ◌∙◌}
use mathlib.Core.List.{List, [], ◌∷◌, ◌++◌, map, append-nil}
use native.Mathlib.Omega.{arith}
use lib.ListN.{length, take, drop, get_or, replicate, length-map}
use lib.Seq.{drop-drop, take_all}
use Rattle.std.specs.Prelude.{slice_index}
use Rattle.std.specs.List.{flat_map}
use mir.Val.{Fits}
use Rattle.std.specs.Int.{w8, w64, from_le_bytes}
use Rattle.std.proofs.lemmas.Nat.{le_bytes_8}
use Rattle.byteorder.specs.Endian.{little_bytes, little_number, IsRead}
use Rattle.byteorder.specs.Numbers.{little_from-take, little_from-lt, little_number-reads_back, length-bytes_low_first}
use Rattle.lists.specs.Lists.{Every, total, self, rows}
use Rattle.lists.proofs.Listing.{length-words}
use Rattle.lists.proofs.Keep.{every_more, every_map}
use Rattle.lists.proofs.Parts.{every_both, every_get_d}
use Rattle.lists.proofs.Joined.{rows_joined, joined_again, total-replicate, length_rows, every_row, every_piece, map_back}
use Rattle.word_bytes.specs.Bytes.{word_bytes, word_of, bytes_of, words_in}

-- eight bytes for each word
pub length_bytes : (ws : List ℕ) → length (bytes_of ws) ≡ 8 * length ws
unfolding bytes_of
length_bytes ws = length-words word_bytes 8 (λ w. length-bytes_low_first 0 8 w) ws

-- the library's own word for bytes end to end
pub flat : (ws : List ℕ) → flat_map (little_bytes 8) ws ≡ bytes_of ws
unfolding bytes_of
flat [] = refl
flat (w ∷ ws) = ap (λ l. word_bytes w ++ l) (flat ws)

-- what a slice of bytes has of each place holds of each
pub each_byte : (bytes : List ℕ) → ((i : ℕ) → Fits w8 (get_or bytes i 0)) → Every (λ b. b < 256) bytes
each_byte [] h = tt
each_byte (b ∷ bytes) h = (omega (arith, h 0), each_byte bytes (λ i. h (suc i)))

-- words read one by one are the words of the rows
each_read : (bytes ws : List ℕ) → IsRead little_number 8 bytes ws → ws ≡ map word_of (rows 8 (length ws) bytes)
each_read bytes [] r = refl
each_read bytes (w ∷ ws) r =
    let first : w ≡ word_of (take 8 bytes) = r 0 (omega arith) ∙ sym (little_from-take 0 8 8 bytes (omega arith)) in
    ap₂ (λ v vs. v ∷ vs) first (each_read (drop 8 bytes) ws (λ k h. later k (r (suc k) (omega (arith, h)))))
  where
    later : (k : ℕ) → slice_index ws k ≡ little_number 8 (drop (8 * suc k) bytes) → slice_index ws k ≡ little_number 8 (drop (8 * k) (drop 8 bytes))
    later k e =
        let place : 8 + 8 * k ≡ 8 * suc k = omega arith in
        e ∙ ap (little_number 8) (ap (λ n. drop n bytes) (sym place) ∙ sym (drop-drop (8 * k) 8 bytes))

pub all_read : (bytes ws : List ℕ) → length bytes ≡ 8 * length ws → IsRead little_number 8 bytes ws → ws ≡ words_in bytes
unfolding words_in
all_read bytes ws h r =
    let many : length ws ≡ length bytes / 8 = omega (arith, h) in
    each_read bytes ws r ∙ ap (λ n. map word_of (rows 8 n bytes)) many

-- the words of the bytes of words
pub words_again : (ws : List ℕ) → Every (λ w. w < 2 ^ 64) ws → words_in (bytes_of ws) ≡ ws
unfolding words_in bytes_of
words_again ws v =
    let many : length (bytes_of ws) / 8 ≡ length ws = omega (arith, length_bytes ws) in
    ap (λ n. map word_of (rows 8 n (bytes_of ws))) many
    ∙ ap (λ l. map word_of (rows 8 (length ws) l)) (sym (append-nil (bytes_of ws)))
    ∙ ap (map word_of) (rows_joined word_bytes 8 (λ w. length-bytes_low_first 0 8 w) ws [])
    ∙ map_back word_bytes word_of ws (every_more (λ w. w < 2 ^ 64) (λ w. word_of (word_bytes w) ≡ w) again ws v)
  where
    again : (w : ℕ) → w < 2 ^ 64 → word_of (word_bytes w) ≡ w
    again w h = ap (little_number 8) (sym (append-nil (word_bytes w))) ∙ little_number-reads_back 8 w [] h

-- a row of eight bytes
row_again : (row : List ℕ) → (length row ≡ 8) × Every (λ b. b < 256) row → word_bytes (word_of row) ≡ row
row_again row h =
    let same : word_of row ≡ from_le_bytes w64 row = omega arith in
    le_bytes_8 row (word_of row) h.0 (λ i. every_get_d (λ b. b < 256) 0 i row (omega arith) h.1) same

-- the bytes of the words of bytes
pub bytes_again : (bytes : List ℕ) → length bytes % 8 ≡ 0 → Every (λ b. b < 256) bytes → bytes_of (words_in bytes) ≡ bytes
unfolding words_in bytes_of
bytes_again bytes h v =
    let n : ℕ = length bytes / 8 in
    let many : 8 * n ≡ length bytes = omega (arith, h) in
    let each = every_both (λ m. length m ≡ 8) (Every (λ b. b < 256)) (rows 8 n bytes)
    (every_row 8 n bytes (omega (arith, many))) (every_piece (λ b. b < 256) (replicate n 8) bytes v) in
    let same : map word_bytes (words_in bytes) ≡ rows 8 n bytes =
    map_back word_of word_bytes (rows 8 n bytes) (every_more (λ m. (length m ≡ 8) × Every (λ b. b < 256) m) (λ m. word_bytes (word_of m) ≡ m) row_again (rows 8 n bytes) each) in
    joined_again word_bytes (words_in bytes) (replicate n 8) bytes same
    ∙ take_all (total self (replicate n 8)) bytes (omega (arith, total-replicate n 8, many))

-- what bytes are read as is words
pub words_fit : (bytes : List ℕ) → Every (λ b. b < 256) bytes → Every (λ w. w < 2 ^ 64) (words_in bytes)
unfolding words_in
words_fit bytes v =
    let n : ℕ = length bytes / 8 in
    every_map word_of (λ w. w < 2 ^ 64) (rows 8 n bytes)
    (every_more (Every (λ b. b < 256)) (λ m. word_of m < 2 ^ 64) (λ m w. little_from-lt 0 8 m (λ i. every_get_d (λ b. b < 256) 0 i m (omega arith) w)) (rows 8 n bytes) (every_piece (λ b. b < 256) (replicate n 8) bytes v))

pub length_words : (bytes : List ℕ) → length (words_in bytes) ≡ length bytes / 8
unfolding words_in
length_words bytes = length-map (rows 8 (length bytes / 8) bytes) word_of ∙ length_rows 8 (length bytes / 8) bytes
