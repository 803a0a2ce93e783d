-- The lines and the deciding transactions of a well formed finalization: how many there are and which words they are.
-- Assumes nothing.
use Prim.Native.Nat.{ℕ, ◌+◌, ◌*◌, ◌≤◌, ◌<◌}
use mathlib.Core.Path.{◌≡◌, sym, ap, ◌∙◌}
use mathlib.Core.Bool.{true, ◌&&◌}
use mathlib.Core.List.{List, ◌∷◌}
use native.Mathlib.Omega.{arith}
use lib.Dec.{eqb, leb}
use lib.ListN.{length, drop}
use borrow.Author.Tests.{leb-true, eqb-true}
use Rattle.lists.specs.Lists.{all, zip_by, part}
use Rattle.lists.proofs.Tests.{and_true}
use Rattle.lists.proofs.Keep.{each_of}
use Rattle.lists.proofs.Cuts.{all-at, rest_tail, part_length, part_at, part_more, zip_by-length, zip_by-rest}
use Rattle.rules.specs.Words.{word, Line, line_count, deciding_count, finalization_lines, deciding, finalization_tests, finalization_formed}

pub record Finalized (ws : List ℕ) : Type 0 where
  pub head : 2 ≤ length ws
  pub few : line_count ws ≤ 48
  pub decided : deciding_count ws ≤ 48
  pub exact : length ws ≡ 2 + 2 * line_count ws + deciding_count ws

pub finalized : (ws : List ℕ) → finalization_formed ws ≡ true → Finalized ws
unfolding finalization_formed
finalized ws h =
    let t = each_of (finalization_tests ws) h in
    record {
      head = leb-true 2 (length ws) t.0;
      few = leb-true (line_count ws) 48 t.1.0;
      decided = leb-true (deciding_count ws) 48 t.1.1.0;
      exact = omega (arith, eqb-true (length ws) (2 + 1 * line_count ws + line_count ws + 1 * deciding_count ws) t.1.1.1.0);
    }

-- the tests in the code's words
pub finalization_is : (ws : List ℕ) → finalization_formed ws ≡
    leb 2 (length ws) && (leb (word 0 ws) 48 && (leb (word 1 ws) 48 && (eqb (length ws) (2 + word 0 ws + word 0 ws + word 1 ws) && all (λ d. leb 1 d && leb d 3) (part (2 + word 0 ws) (word 0 ws) ws))))
unfolding finalization_formed
finalization_is ws =
    let n : 1 * line_count ws ≡ line_count ws = omega arith in
    let m : 1 * deciding_count ws ≡ deciding_count ws = omega arith in
    rw (n, m, and_true (all (λ d. leb 1 d && leb d 3) (part (2 + line_count ws) (line_count ws) ws)))

abbrev pub line_of : ℕ → ℕ → Line
line_of t d = record { transaction = t; decision = d }

-- the i-th line
abbrev pub line_at : List ℕ → ℕ → Line
line_at ws i = line_of (word (2 + i) ws) (word (2 + line_count ws + i) ws)

module _ (ws : List ℕ) where
  once : (n : ℕ) → 1 * n ≡ n
  once n = omega arith

  as_parts : finalization_lines ws ≡ zip_by line_of (part 2 (line_count ws) ws) (part (2 + line_count ws) (line_count ws) ws)
  unfolding finalization_lines
  as_parts = rw (once (line_count ws))

  pub deciding_is : deciding ws ≡ part (2 + line_count ws + line_count ws) (deciding_count ws) ws
  unfolding deciding
  deciding_is = rw (once (line_count ws), once (deciding_count ws))

  module _ (f : finalization_formed ws ≡ true) where
    transactions-many : length (part 2 (line_count ws) ws) ≡ line_count ws
    transactions-many = part_length 2 (line_count ws) ws (omega (arith, (finalized ws f).exact))

    decisions-many : length (part (2 + line_count ws) (line_count ws) ws) ≡ line_count ws
    decisions-many = part_length (2 + line_count ws) (line_count ws) ws (omega (arith, (finalized ws f).exact))

    pub lines_length : length (finalization_lines ws) ≡ line_count ws
    lines_length =
        ap length as_parts
        ∙ zip_by-length line_of (part 2 (line_count ws) ws) (part (2 + line_count ws) (line_count ws) ws) (transactions-many ∙ sym decisions-many)
        ∙ transactions-many

    -- a decision code is 1, 2 or 3
    pub code_at : (i : ℕ) → i < line_count ws → leb 1 (word (2 + line_count ws + i) ws) && leb (word (2 + line_count ws + i) ws) 3 ≡ true
    unfolding finalization_formed
    code_at i h =
        let n = line_count ws in
        let all = rw (once n) at (each_of (finalization_tests ws) f).1.1.1.1.0 in
        rw (part_at (2 + n) n i ws h) at (all-at (λ d. leb 1 d && leb d 3) 0 (part (2 + n) n ws) i (omega (arith, decisions-many)) all)

    pub line_next : (i : ℕ) → i < line_count ws → drop i (finalization_lines ws) ≡ line_at ws i ∷ drop (i + 1) (finalization_lines ws)
    line_next i h =
        let n = line_count ws in
        let a = part_more 2 n i ws (omega (arith, (finalized ws f).exact)) h in
        let b = part_more (2 + n) n i ws (omega (arith, (finalized ws f).exact)) h in
        let g : drop i (finalization_lines ws) ≡ line_at ws i ∷ zip_by line_of (drop (i + 1) (part 2 n ws)) (drop (i + 1) (part (2 + n) n ws)) =
        ap (drop i) as_parts ∙ zip_by-rest line_of (part 2 n ws) (part (2 + n) n ws) i ∙ rw (a, b) in
        g ∙ ap (λ t. line_at ws i ∷ t) (sym (rest_tail (finalization_lines ws) i (line_at ws i) _ g))
