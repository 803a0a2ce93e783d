-- What the tests of an admission's form say, row by row: which parts can be read, how long they are, and the whole from the rows.
-- Assumes nothing.
use Prim.Native.Nat.{ℕ, suc, ◌^◌, ◌+◌, ◌*◌, ◌≤◌, ◌<◌}
use mathlib.Core.Path.{◌≡◌, sym, ap, ◌∙◌}
use mathlib.Core.Bool.{Bool, true, false, ◌&&◌}
use mathlib.Core.List.{List, [], ◌∷◌, ◌++◌}
use native.Mathlib.Omega.{arith}
use lib.Dec.{eqb, leb}
use lib.ListN.{length, get_or, length-drop}
use borrow.Author.Tests.{leb-true, le-leb, eqb-true, eq-eqb, lt-ltb}
use Rattle.lists.specs.Lists.{all, all_of, ascending, total, self, cut, Every}
use Rattle.lists.proofs.Tests.{and_left, and_right, and_true, same_test}
use Rattle.lists.proofs.Keep.{each_of}
use Rattle.lists.proofs.Parts.{length_part}
use Rattle.lists.proofs.Cuts.{all_of-append, fails, within_more, total-within, part_length}
use Rattle.rules.specs.Numbers.{is_word}
use Rattle.rules.specs.Good.{Holds}
use Rattle.rules.specs.Words.{word, within, route_count, core_count, edge_count, edges_at, destinations_at, kinds, sizes, destinations, admission_formed}
use Rattle.words.specs.Admission.{count_tests, size_tests, code_tests, order_tests, Counted, Sized, Split}

pub counted_of : (ws : List ℕ) → all_of (count_tests ws) ≡ true → Counted ws
counted_of ws h =
    let t = each_of (count_tests ws) h in
    record {
      figures = leb-true 9 (length ws) t.0;
      routes = leb-true (route_count ws) 8 t.1.0;
      core = leb-true (core_count ws) 8 t.1.1.0;
      edges = leb-true (edge_count ws) 8 t.1.1.1.0;
    }

pub sized_exact : (ws : List ℕ) → all_of (size_tests ws) ≡ true → length ws ≡ destinations_at ws + total self (sizes ws)
sized_exact ws h = eqb-true (length ws) (destinations_at ws + total self (sizes ws)) (each_of (size_tests ws) h).1.0

pub sized_of : (ws : List ℕ) → Counted ws → all_of (size_tests ws) ≡ true → Sized ws
sized_of ws c h = record { counted = c; room = omega (arith, sized_exact ws h) }

-- the sizes of the destinations are as many as the edges, and add up to few
pub sizes-length : (ws : List ℕ) → Sized ws → length (sizes ws) ≡ edge_count ws
sizes-length ws s = part_length (edges_at ws + 3 * edge_count ws) (edge_count ws) ws (omega (arith, s.room))

pub sizes-few : (ws : List ℕ) → Sized ws → within 4 (sizes ws) ≡ true → total self (sizes ws) ≤ 32
sizes-few ws s h = omega (arith, total-within 4 (sizes ws) h, sizes-length ws s, s.counted.edges)

-- the whole, from the rows
pub rows : (ws : List ℕ) → admission_formed ws ≡ all_of (count_tests ws) && (all_of (size_tests ws) && (all_of (code_tests ws) && all_of (order_tests ws)))
unfolding admission_formed
rows ws =
    all_of-append (count_tests ws) (size_tests ws ++ code_tests ws ++ order_tests ws)
    ∙ ap (λ b. all_of (count_tests ws) && b)
    (all_of-append (size_tests ws) (code_tests ws ++ order_tests ws) ∙ ap (λ b. all_of (size_tests ws) && b) (all_of-append (code_tests ws) (order_tests ws)))

module _ (ws : List ℕ) where
  abbrev pub C : Bool
  C = all_of (count_tests ws)

  abbrev pub S : Bool
  S = all_of (size_tests ws)

  abbrev pub K : Bool
  K = all_of (code_tests ws)

  abbrev pub O : Bool
  O = all_of (order_tests ws)

-- what a well formed admission has
pub record Formed (ws : List ℕ) : Type 0 where
  pub sized : Sized ws
  pub few : within 4 (sizes ws) ≡ true
  pub exact : length ws ≡ destinations_at ws + total self (sizes ws)
  pub known : within 1 (kinds ws) ≡ true

pub formed_of : (ws : List ℕ) → admission_formed ws ≡ true → Formed ws
formed_of ws h =
    let t = sym (rows ws) ∙ h in
    let t₁ = and_right (C ws) (S ws && (K ws && O ws)) t in
    let s = and_left (S ws) (K ws && O ws) t₁ in
    let k = and_left (K ws) (O ws) (and_right (S ws) (K ws && O ws) t₁) in
    record {
      sized = sized_of ws (counted_of ws (and_left (C ws) (S ws && (K ws && O ws)) t)) s;
      few = (each_of (size_tests ws) s).0;
      exact = sized_exact ws s;
      known = (each_of (code_tests ws) k).1.0;
    }

-- no parts can be read of words of no form
pub not_sized : (ws : List ℕ) → (Sized ws → ⊥) → admission_formed ws ≡ false
not_sized ws h = sym (fails (admission_formed ws) (λ t. h (formed_of ws t).sized))

-- the words taken apart
module _ (ws r c i f k n t : List ℕ) (s : Split ws r c i f k n t) where
  split_long : eqb (length t) (total self n) ≡ eqb (length ws) (destinations_at ws + total self (sizes ws))
  split_long =
      let e : total self n ≡ total self (sizes ws) = ap (total self) s.sizes in
      let size : length t + destinations_at ws ≡ length ws = omega (arith, ap length s.to, length-drop (destinations_at ws) ws, s.sized.room) in
      same_test (eqb (length t) (total self n)) (eqb (length ws) (destinations_at ws + total self (sizes ws)))
      (λ q. eq-eqb _ _ (omega (arith, eqb-true (length t) (total self n) q)))
      (λ q. eq-eqb _ _ (omega (arith, eqb-true (length ws) (destinations_at ws + total self (sizes ws)) q)))

  pub split_is : admission_formed ws ≡
      all (λ m. leb m 4) n && (eqb (length t) (total self n) && (leb (word 8 ws) 1 && (all (λ m. leb m 1) k && (ascending self c && all (ascending self) (cut n t)))))
  unfolding admission_formed
  split_is =
      let q = s.sized.counted in
      rw (le-leb 9 (length ws) q.figures, le-leb (route_count ws) 8 q.routes, le-leb (core_count ws) 8 q.core, le-leb (edge_count ws) 8 q.edges, split_long, s.sizes, s.kinds, s.core, s.to)
      (rw (and_true (all (ascending self) (destinations ws))))

  pub few_total : all (λ m. leb m 4) n ≡ true → total self n ≤ 384
  few_total h = omega (arith, ap (total self) s.sizes, sizes-few ws s.sized (rw s.sizes at h))

  pub kinds_short : length k ≤ 8
  kinds_short = omega (arith, ap length s.kinds, length_part (edges_at ws + 2 * edge_count ws) (edge_count ws) ws, s.sized.counted.edges)

  pub sizes_short : length n ≤ 8
  sizes_short = omega (arith, ap length s.sizes, length_part (edges_at ws + 3 * edge_count ws) (edge_count ws) ws, s.sized.counted.edges)

  pub kinds_narrow : admission_formed ws ≡ true → all (λ m. leb m 255) k ≡ true
  kinds_narrow h = rw s.kinds (within_more 1 255 (kinds ws) (omega arith) (formed_of ws h).known)

  pub sizes_narrow : admission_formed ws ≡ true → all (λ m. leb m 255) n ≡ true
  sizes_narrow h = rw s.sizes (within_more 4 255 (sizes ws) (omega arith) (formed_of ws h).few)

  pub to_short : admission_formed ws ≡ true → length t ≤ 32
  to_short h =
      let e = formed_of ws h in
      omega (arith, ap length s.to, length-drop (destinations_at ws) ws, e.exact, sizes-few ws s.sized e.few)

-- a list of numbers that are words wherever it is read
pub all_words_lem : (l : List ℕ) → ((i : ℕ) → get_or l i 0 < 2 ^ 64) → Every (Holds is_word) l
all_words_lem [] f = tt
all_words_lem (x ∷ l) f = (lt-ltb x (2 ^ 64) (f 0), all_words_lem l (λ i. f (suc i)))
