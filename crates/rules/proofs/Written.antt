-- An admission that says given terms: its words, that the table lets them pass, and that they are read back as these terms.
-- Assumes nothing.
use Prim.Native.Nat.{ℕ, ◌+◌, ◌*◌, ◌^◌, ◌≤◌}
use mathlib.Core.Path.{◌≡◌, refl, ap}
use mathlib.Core.Bool.{true}
use mathlib.Core.List.{List, [], ◌∷◌, ◌++◌, map, append-nil}
use native.Mathlib.Omega.{arith}
use borrow.Author.Tests.{ltb-true, leb-true, lt-ltb, le-leb, eq-eqb}
use lib.Dec.{ltb, leb}
use lib.ListN.{length, drop, length-map, length-append}
use Rattle.lists.specs.Lists.{total, concat_map, zip_by, self, part, cut, Every, ascending}
use Rattle.lists.proofs.Tests.{and_right}
use Rattle.lists.proofs.Keep.{all_every, every_append, every_map, every_more, every_concat_map}
use Rattle.lists.proofs.Order.{test_ascending}
use Rattle.lists.proofs.Joined.{behind, stands_at, cut_joined, length_joined}
use Rattle.rules.specs.Numbers.{is_word, is_time, is_shard, max_routes, max_core, max_edges, max_destinations}
use Rattle.rules.specs.Plain.{Edge, Terms}
use Rattle.rules.specs.Words.{edge, with, sizes, kinds, froms, core_in, destinations, destinations_at, edges_in, admission_terms, admission_formed, admission_timed, admission_placed, admission_words}
use Rattle.rules.specs.Good.{Holds, GoodEdge, GoodTerms}

-- small numbers, times and shards are words
pub small_word : (n : ℕ) → n ≤ 119 → is_word n ≡ true
small_word n h = lt-ltb n (2 ^ 64) (omega arith)

pub time_word : (n : ℕ) → is_time n ≡ true → is_word n ≡ true
time_word n h = lt-ltb n (2 ^ 64) (omega (arith, ltb-true n (2 ^ 48) h))

pub shard-word : (n : ℕ) → is_shard n ≡ true → is_word n ≡ true
shard-word n h = lt-ltb n (2 ^ 64) (omega (arith, ltb-true n (2 ^ 33) (and_right (leb 1 n) (ltb n (2 ^ 33)) h)))

-- The edges as parallel arrays.
abbrev pub id_of : Edge → ℕ
id_of g = g.id

abbrev pub from_of : Edge → ℕ
from_of g = g.from

abbrev pub kind_of : Edge → ℕ
kind_of g = g.kind

abbrev pub to_of : Edge → List ℕ
to_of g = g.to

abbrev pub size_of : Edge → ℕ
size_of g = length g.to

zip_back : (gs : List Edge) → zip_by with (zip_by with (zip_by edge (map id_of gs) (map from_of gs)) (map kind_of gs)) (map to_of gs) ≡ gs
zip_back [] = refl
zip_back (g ∷ gs) = ap (λ m. g ∷ m) (zip_back gs)

pub sizes-within : (gs : List Edge) → Every GoodEdge gs → Every (λ g. leb (size_of g) max_destinations ≡ true) gs
sizes-within gs v = every_more GoodEdge (λ g. leb (size_of g) max_destinations ≡ true) (λ g x. le-leb (size_of g) max_destinations x.to.size) gs v

kinds-within : (gs : List Edge) → Every GoodEdge gs → Every (λ g. leb g.kind 1 ≡ true) gs
kinds-within gs v = every_more GoodEdge (λ g. leb g.kind 1 ≡ true) (λ g x. le-leb g.kind 1 x.kind) gs v

rising-to : (gs : List Edge) → Every GoodEdge gs → Every (λ g. ascending self g.to ≡ true) gs
rising-to gs v = every_more GoodEdge (λ g. ascending self g.to ≡ true) (λ g x. test_ascending self g.to x.rising) gs v

from-shards : (gs : List Edge) → Every GoodEdge gs → Every (λ g. is_shard g.from ≡ true) gs
from-shards gs v = every_more GoodEdge (λ g. is_shard g.from ≡ true) (λ g x. x.from) gs v

to-shards : (gs : List Edge) → Every GoodEdge gs → Every (Holds is_shard) (concat_map to_of gs)
to-shards gs v =
    every_concat_map (Holds is_shard) to_of gs (every_more GoodEdge (λ g. Every (Holds is_shard) g.to) (λ g x. x.to.each) gs v)

edge-words : (f : Edge → ℕ) → ((h : Edge) → GoodEdge h → is_word (f h) ≡ true) → (gs : List Edge) → Every GoodEdge gs → Every (λ h. is_word (f h) ≡ true) gs
edge-words f w gs v = every_more GoodEdge (λ h. is_word (f h) ≡ true) w gs v

-- The words.
module _ (d : ℕ) (t : Terms) where
  abbrev gs : List Edge
  gs = t.edges

  abbrev sized : List ℕ
  sized = map size_of gs ++ concat_map to_of gs

  abbrev counted : List ℕ
  counted = map kind_of gs ++ sized

  abbrev started : List ℕ
  started = map from_of gs ++ counted

  abbrev crossed : List ℕ
  crossed = map id_of gs ++ started

  abbrev cored : List ℕ
  cored = t.core_shards ++ crossed

  abbrev r : ℕ
  r = length t.routes

  abbrev c : ℕ
  c = length t.core_shards

  abbrev e : ℕ
  e = length gs

  abbrev ws : List ℕ
  ws = admission_words d t

  routes-rest : drop 9 ws ≡ t.routes ++ cored
  routes-rest = refl

  core-rest : drop (9 + r) ws ≡ cored
  core-rest = behind 9 ws t.routes cored routes-rest

  ids-rest : drop (9 + r + c) ws ≡ crossed
  ids-rest = behind (9 + r) ws t.core_shards crossed core-rest

  froms-rest : drop (9 + r + c + e) ws ≡ started
  froms-rest = rw (length-map gs id_of) at (behind (9 + r + c) ws (map id_of gs) started ids-rest)

  kinds-rest : drop (9 + r + c + 2 * e) ws ≡ counted
  kinds-rest =
      let q : 9 + r + c + e + e ≡ 9 + r + c + 2 * e = omega arith in
      rw q at (rw (length-map gs from_of) at (behind (9 + r + c + e) ws (map from_of gs) counted froms-rest))

  sizes-rest : drop (9 + r + c + 3 * e) ws ≡ sized
  sizes-rest =
      let q : 9 + r + c + 2 * e + e ≡ 9 + r + c + 3 * e = omega arith in
      rw q at (rw (length-map gs kind_of) at (behind (9 + r + c + 2 * e) ws (map kind_of gs) sized kinds-rest))

  to-rest : drop (9 + r + c + 4 * e) ws ≡ concat_map to_of gs
  to-rest =
      let q : 9 + r + c + 3 * e + e ≡ 9 + r + c + 4 * e = omega arith in
      rw q at (rw (length-map gs size_of) at (behind (9 + r + c + 3 * e) ws (map size_of gs) (concat_map to_of gs) sizes-rest))

  pub routes-read : part 9 r ws ≡ t.routes
  routes-read = stands_at 9 r ws t.routes cored routes-rest refl

  pub core-read : core_in ws ≡ t.core_shards
  core-read = stands_at (9 + r) c ws t.core_shards crossed core-rest refl

  ids-read : part (9 + r + c) e ws ≡ map id_of gs
  ids-read = stands_at (9 + r + c) e ws (map id_of gs) started ids-rest (length-map gs id_of)

  froms-read : froms ws ≡ map from_of gs
  froms-read = stands_at (9 + r + c + e) e ws (map from_of gs) counted froms-rest (length-map gs from_of)

  kinds-read : kinds ws ≡ map kind_of gs
  kinds-read = stands_at (9 + r + c + 2 * e) e ws (map kind_of gs) sized kinds-rest (length-map gs kind_of)

  pub sizes-read : sizes ws ≡ map size_of gs
  sizes-read = stands_at (9 + r + c + 3 * e) e ws (map size_of gs) (concat_map to_of gs) sizes-rest (length-map gs size_of)

  to_cut : cut (map size_of gs) (concat_map to_of gs) ≡ map to_of gs
  to_cut = rw append-nil at (cut_joined to_of gs [])

  to_read : destinations ws ≡ map to_of gs
  to_read = rw (sizes-read, to-rest) to_cut

  edges-read : edges_in ws ≡ gs
  edges-read = rw (ids-read, froms-read, kinds-read, to_read) (zip_back gs)

  pub terms-read : admission_terms ws ≡ t
  unfolding admission_terms
  terms-read = rw (routes-read, core-read, edges-read)

  pub size_is : length ws ≡ destinations_at ws + total self (map size_of gs)
  size_is =
      omega (
        arith,
        length_joined to_of gs,
        length-append t.routes cored,
        length-append t.core_shards crossed,
        length-append (map id_of gs) started,
        length-append (map from_of gs) counted,
        length-append (map kind_of gs) sized,
        length-append (map size_of gs) (concat_map to_of gs),
        length-map gs id_of,
        length-map gs from_of,
        length-map gs kind_of,
        length-map gs size_of,
      )

  -- the words of good terms pass the table
  module _ (g : GoodTerms t) (b : leb d 1 ≡ true) where
    pub words_formed : admission_formed ws ≡ true
    unfolding admission_formed
    words_formed =
        rw (
          le-leb 9 (length ws) (omega arith),
          le-leb r max_routes g.routes.size,
          le-leb c max_core g.core_shards.size,
          le-leb e max_edges g.edge_count,
          sizes-read,
          all_every (λ n. leb n max_destinations) (map size_of gs) (every_map size_of (λ n. leb n max_destinations ≡ true) gs (sizes-within gs g.edges)),
          eq-eqb (length ws) (destinations_at ws + total self (map size_of gs)) size_is,
          b,
          kinds-read,
          all_every (λ n. leb n 1) (map kind_of gs) (every_map kind_of (λ n. leb n 1 ≡ true) gs (kinds-within gs g.edges)),
          core-read,
          test_ascending self t.core_shards g.rising,
          to-rest,
          to_cut,
          all_every (ascending self) (map to_of gs) (every_map to_of (λ m. ascending self m ≡ true) gs (rising-to gs g.edges)),
        )

    pub words-timed : admission_timed ws ≡ true
    unfolding admission_timed
    words-timed = rw (g.at, g.end, g.anchor)

    pub words_placed : admission_placed ws ≡ true
    unfolding admission_placed
    words_placed =
        rw (
          core-read,
          all_every is_shard t.core_shards g.core_shards.each,
          froms-read,
          all_every is_shard (map from_of gs) (every_map from_of (Holds is_shard) gs (from-shards gs g.edges)),
          to-rest,
          all_every is_shard (concat_map to_of gs) (to-shards gs g.edges),
        )

    -- and they are words
    pub words-words : Every (Holds is_word) ws
    words-words =
        let each : Every (Holds is_word) crossed =
        every_append (Holds is_word) (map id_of gs) started (every_map id_of (Holds is_word) gs (edge-words id_of (λ h x. x.id) gs g.edges))
        (every_append (Holds is_word) (map from_of gs) counted (every_map from_of (Holds is_word) gs (edge-words from_of (λ h x. shard-word h.from x.from) gs g.edges))
        (every_append (Holds is_word) (map kind_of gs) sized (every_map kind_of (Holds is_word) gs (edge-words kind_of (λ h x. small_word h.kind (omega (arith, x.kind))) gs g.edges))
        (every_append (Holds is_word) (map size_of gs) (concat_map to_of gs) (every_map size_of (Holds is_word) gs (edge-words size_of (λ h x. small_word (size_of h) (omega (arith, x.to.size))) gs g.edges))
        (every_more (Holds is_shard) (Holds is_word) shard-word (concat_map to_of gs) (to-shards gs g.edges))))) in
        let rest = every_append (Holds is_word) t.routes cored g.routes.each
        (every_append (Holds is_word) t.core_shards crossed (every_more (Holds is_shard) (Holds is_word) shard-word t.core_shards g.core_shards.each) each) in
        (small_word r (omega (arith, g.routes.size)), (small_word c (omega (arith, g.core_shards.size)), (small_word e (omega (arith, g.edge_count)), (g.transaction, (time_word t.at g.at, (time_word t.end g.end, (time_word t.anchor g.anchor, (g.charge, (small_word d (omega (arith, leb-true d 1 b)), rest)))))))))
