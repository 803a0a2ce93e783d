-- Bytes that come in: those that are whole words, and no more than a snapshot's, are read as these; all others are refused as no words are.
-- Assumes nothing.
use Prim.Native.Nat.{ℕ, ◌*◌, ◌/◌, ◌%◌, ◌^◌, ◌≤◌, ◌<◌}
use mathlib.Core.Path.{◌≡◌, refl, sym, ap, ◌∙◌}
use mathlib.Core.Bool.{Bool, true, false, not, cond, ◌&&◌}
use mathlib.Core.List.{List, []}
use native.Mathlib.Omega.{arith}
use lib.Dec.{eqb, leb}
use lib.ListN.{length, take, get_or}
use lib.Seq.{take_all}
use borrow.Author.Tests.{leb-true, leb-false, eqb-true, eq-eqb, ltb-true, lt-ltb}
use mir.Syntax.{w8}
use mir.Val.{Fits}
use Rattle.lists.specs.Lists.{Every}
use Rattle.lists.proofs.Keep.{every_more}
use Rattle.rules.specs.Numbers.{is_word}
use Rattle.rules.specs.Good.{Good, Holds}
use Rattle.rules.specs.Widths.{snapshot_room}
use Rattle.rules.specs.Outcome.{Outcome, done, unless, ◌gives◌then◌}
use Rattle.rules.specs.Calls.{not_made}
use Rattle.rules.specs.Snapshot.{ledger_in, snapshot_formed, snapshot_refusal, snapshot_words, restoring}
use Rattle.rules.proofs.Kept.{unless-refused, unless-none}
use Rattle.rules.proofs.SnapshotBack.{read_written}
use Rattle.rules.proofs.SnapshotWhole.{written_read}
use Rattle.rules.proofs.SnapshotWords.{snapshot_is_words}
use Rattle.rules.specs.Plain.{Plain}
use Rattle.word_bytes.specs.Bytes.{bytes_of, are_words, words_in}
use Rattle.word_bytes.proofs.Bytes.{length_words, length_bytes, each_byte, words_again, bytes_again, words_fit}
use Rattle.hosts.specs.Hosts.{restoring_bytes, words_read, ledger_bytes}
use Rattle.hosts.proofs.Sizes.{too_many}

-- a refusal by 12, and one of no words
abbrev turned_away : Outcome
turned_away = record { refused = 12; answers = []; ledger = not_made; words = [] }

no_words : restoring (words_in []) ≡ turned_away
unfolding restoring words_in snapshot_formed
no_words = refl

by_form : (ws : List ℕ) → snapshot_refusal ws ≡ 12 → restoring ws ≡ turned_away
unfolding restoring
by_form ws e = rw e refl

-- so many of them fit in a list for the longest snapshot
pub words_few : (n : ℕ) → (words_read n ≤ snapshot_room) × (8 * words_read n ≤ n)
words_few n = go (eqb (n % 8) 0) (leb (n / 8) snapshot_room) refl refl
  where
    go : (b c : Bool) → eqb (n % 8) 0 ≡ b → leb (n / 8) snapshot_room ≡ c → (cond (b && c) (n / 8) 0 ≤ snapshot_room) × (8 * cond (b && c) (n / 8) 0 ≤ n)
    go true true e f = (leb-true (n / 8) snapshot_room f, omega arith)
    go true false e f = (omega arith, omega arith)
    go false c e f = (omega arith, omega arith)

pub restored_same : (bytes : List ℕ) → restoring (words_in (take (8 * words_read (length bytes)) bytes)) ≡ restoring_bytes bytes
unfolding restoring_bytes
restored_same bytes = go (are_words bytes) (leb (length bytes / 8) snapshot_room) refl refl
  where
    go : (b c : Bool) → are_words bytes ≡ b → leb (length bytes / 8) snapshot_room ≡ c →
        restoring (words_in (take (8 * cond (b && c) (length bytes / 8) 0) bytes)) ≡ unless (not b gives 12 then 0) not_made (restoring (words_in bytes))
    go true true e f = ap (λ l. restoring (words_in l)) (take_all (8 * (length bytes / 8)) bytes (omega (arith, eqb-true (length bytes % 8) 0 e)))
    go true false e f =
        no_words ∙ sym (by_form (words_in bytes) (too_many (words_in bytes) (omega (arith, length_words bytes, leb-false (length bytes / 8) snapshot_room f))))
    go false c e f = no_words

-- What is accepted is the writing of the ledger that it is read as.
whole : (b : Bool) (o : Outcome) → (unless (not b gives 12 then 0) not_made o).refused ≡ 0 → (b ≡ true) × (unless (not b gives 12 then 0) not_made o ≡ o)
whole true o e = (refl, refl)
whole false o e = absurd (omega (arith, e))

as_read : (ws : List ℕ) → (restoring ws).refused ≡ 0 → (snapshot_refusal ws ≡ 0) × ((restoring ws).ledger ≡ ledger_in ws)
unfolding restoring
as_read ws e =
    let read : Outcome = done [] (ledger_in ws) in
    let none : snapshot_refusal ws ≡ 0 = sym (unless-refused (snapshot_refusal ws) not_made read refl) ∙ e in
    (none, ap (λ (o : Outcome). o.ledger) (unless-none (snapshot_refusal ws) not_made read none))

module _ (bytes : List ℕ) (fits : (i : ℕ) → Fits w8 (get_or bytes i 0)) (e : (restoring_bytes bytes).refused ≡ 0) where
  small : Every (λ b. b < 256) bytes
  small = each_byte bytes fits

  are_word : Every (Holds is_word) (words_in bytes)
  are_word = every_more (λ w. w < 2 ^ 64) (λ w. is_word w ≡ true) (λ w h. lt-ltb w (2 ^ 64) h) (words_in bytes) (words_fit bytes small)

  pub accepted : ledger_bytes (restoring_bytes bytes).ledger ≡ bytes
  unfolding restoring_bytes
  accepted =
      let w = whole (are_words bytes) (restoring (words_in bytes)) e in
      let r = as_read (words_in bytes) (ap (λ (o : Outcome). o.refused) (sym w.1) ∙ e) in
      ap (λ (o : Outcome). ledger_bytes o.ledger) w.1
      ∙ ap ledger_bytes r.1
      ∙ ap bytes_of (read_written (words_in bytes) are_word r.0).1
      ∙ bytes_again bytes (eqb-true (length bytes % 8) 0 w.0) small

-- The writing of a ledger that calls reach comes in as this ledger.
pub comes_again : (p : Plain) → Good p → restoring_bytes (ledger_bytes p) ≡ done [] p
unfolding restoring_bytes restoring
comes_again p g =
    let ws : List ℕ = snapshot_words p in
    let w = written_read p g in
    let again : words_in (bytes_of ws) ≡ ws =
    words_again ws (every_more (λ n. is_word n ≡ true) (λ n. n < 2 ^ 64) (λ n h. ltb-true n (2 ^ 64) h) ws (snapshot_is_words p g)) in
    let all : are_words (bytes_of ws) ≡ true = eq-eqb (length (bytes_of ws) % 8) 0 (omega (arith, length_bytes ws)) in
    rw (all, again, w.0, w.1) refl
