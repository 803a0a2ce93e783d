-- What words that the table lets pass give: entries that are good, of an admission and of an abandonment record.
-- Assumes nothing.
use Prim.Native.Nat.{ℕ, ◌+◌, ◌≤◌}
use mathlib.Core.Path.{◌≡◌, refl}
use mathlib.Core.Bool.{Bool, true, false, cond}
use mathlib.Core.List.{List, [], ◌∷◌}
use native.Mathlib.Omega.{arith}
use lib.Dec.{eqb, leb}
use lib.ListN.{length, drop}
use borrow.Author.Tests.{leb-true}
use Rattle.lists.specs.Lists.{all, Every, Ascending, has, ascending, zip_by, self, part, cut}
use Rattle.lists.proofs.Tests.{by_cond}
use Rattle.lists.proofs.Keep.{every_all, each_of}
use Rattle.lists.proofs.Order.{ascending_test}
use Rattle.lists.proofs.Parts.{every_drop, every_get_d, every_part, length_part, every_zip_by, length-zip_by, every_cut, every_both}
use Rattle.rules.specs.Numbers.{is_word, is_time, is_shard}
use Rattle.rules.specs.Plain.{Part, whole, leg, core, Edge, Terms}
use Rattle.rules.specs.Words.{word, transaction_size, edge, with, route_count, core_count, edge_count, figures_at, decomposed, routes_at, core_at, edges_at, destinations_at, core_in, froms, kinds, sizes, destinations, edges_in, admission_terms, admission_tests, admission_formed, admission_timed, admission_placed, reach_sizes, groups_at, reaches_at, group_terms, groups_from, record_groups, record_tests, record_formed, record_timed, timed}
use Rattle.rules.specs.Entries.{entry, whole_terms, admitted, rebuilt}
use Rattle.rules.specs.Good.{Holds, GoodEdge, GoodTerms, Unmarked, GoodPart, is_departed_by, GoodEntry}

pub words-at : (i : ℕ) (ws : List ℕ) → Every (Holds is_word) ws → is_word (word i ws) ≡ true
words-at i ws v = every_get_d (Holds is_word) 0 i ws refl v

-- the tests of an admission's form, one by one
pub record Formed (ws : List ℕ) : Type 0 where
  pub routes : route_count ws ≤ 8
  pub core : core_count ws ≤ 8
  pub edges : edge_count ws ≤ 8
  pub sizes : Every (λ n. leb n 4 ≡ true) (sizes ws)
  pub kinds : Every (λ k. leb k 1 ≡ true) (kinds ws)
  pub rising : Ascending self (core_in ws)
  pub destinations : Every (λ m. ascending self m ≡ true) (destinations ws)

pub formed : (ws : List ℕ) → admission_formed ws ≡ true → Formed ws
unfolding admission_formed
formed ws h =
    let t = each_of (admission_tests ws) h in
    record {
      routes = leb-true (route_count ws) 8 t.1.0;
      core = leb-true (core_count ws) 8 t.1.1.0;
      edges = leb-true (edge_count ws) 8 t.1.1.1.0;
      sizes = every_all (λ n. leb n 4) (sizes ws) t.1.1.1.1.0;
      kinds = every_all (λ k. leb k 1) (kinds ws) t.1.1.1.1.1.1.1.0;
      rising = ascending_test self (core_in ws) t.1.1.1.1.1.1.1.1.0;
      destinations = every_all (ascending self) (destinations ws) t.1.1.1.1.1.1.1.1.1.0;
    }

-- destinations that an edge may have
abbrev Arrives : List ℕ → Type 0
Arrives to = ((length to ≤ 4) × Every (Holds is_shard) to) × (ascending self to ≡ true)

module _ (ws : List ℕ) (v : Every (Holds is_word) ws) (f : Formed ws) (t : admission_timed ws ≡ true) (s : admission_placed ws ≡ true) where
  abbrev placed : List Bool
  placed = all is_shard (core_in ws) ∷ all is_shard (froms ws) ∷ all is_shard (drop (destinations_at ws) ws) ∷ []

  core_placed : Every (Holds is_shard) (core_in ws)
  unfolding admission_placed
  core_placed = every_all is_shard (core_in ws) (each_of placed s).0

  froms_placed : Every (Holds is_shard) (froms ws)
  unfolding admission_placed
  froms_placed = every_all is_shard (froms ws) (each_of placed s).1.0

  arrive : Every Arrives (destinations ws)
  unfolding admission_placed
  arrive =
      every_both _ _ (destinations ws)
      (every_cut (Holds is_shard) 4 (sizes ws) (drop (destinations_at ws) ws) f.sizes (every_all is_shard (drop (destinations_at ws) ws) (each_of placed s).1.1.0))
      f.destinations

  abbrev ids : List ℕ
  ids = part (edges_at ws) (edge_count ws) ws

  -- an edge still to be told its kind and its destinations, or these alone
  abbrev Needs : (ℕ → List ℕ → Edge) → Type 0
  Needs g = (kind : ℕ) → leb kind 1 ≡ true → (to : List ℕ) → Arrives to → GoodEdge (g kind to)

  abbrev NeedsTo : (List ℕ → Edge) → Type 0
  NeedsTo g = (to : List ℕ) → Arrives to → GoodEdge (g to)

  edges-good : Every GoodEdge (edges_in ws)
  edges-good =
      every_zip_by NeedsTo Arrives GoodEdge with (λ g to c a. c to a) (zip_by with (zip_by edge ids (froms ws)) (kinds ws)) (destinations ws)
      (every_zip_by Needs (λ kind. leb kind 1 ≡ true) NeedsTo with (λ g kind c k. c kind k) (zip_by edge ids (froms ws)) (kinds ws)
      (every_zip_by (Holds is_word) (Holds is_shard) Needs edge
      (λ id from i s kind k to a.
      record { id = i; from = s; kind = leb-true kind 1 k; to = record { size = a.0.0; each = a.0.1 }; rising = ascending_test self to a.1 })
      ids (froms ws) (every_part (Holds is_word) (edges_at ws) (edge_count ws) ws v) froms_placed)
      f.kinds)
      arrive

  edges_few : length (edges_in ws) ≤ 8
  edges_few =
      omega (
        arith,
        f.edges,
        length_part (edges_at ws) (edge_count ws) ws,
        length-zip_by edge ids (froms ws),
        length-zip_by {B = ℕ} with (zip_by edge ids (froms ws)) (kinds ws),
        length-zip_by {B = List ℕ} with (zip_by with (zip_by edge ids (froms ws)) (kinds ws)) (destinations ws),
      )

  pub terms-good : GoodTerms (admission_terms ws)
  unfolding admission_terms admission_timed
  terms-good =
      let times = each_of (is_time (word (figures_at ws) ws) ∷ is_time (word (figures_at ws + 1) ws) ∷ is_time (word (figures_at ws + 2) ws) ∷ []) t in
      record {
        transaction = words-at 3 ws v;
        at = times.0;
        end = times.1.0;
        anchor = times.1.1.0;
        charge = words-at (figures_at ws + 3) ws v;
        routes = record { size = omega (arith, f.routes, length_part (routes_at ws) (route_count ws) ws); each = every_part (Holds is_word) (routes_at ws) (route_count ws) ws v };
        core_shards = record { size = omega (arith, f.core, length_part (core_at ws) (core_count ws) ws); each = core_placed };
        rising = f.rising;
        edge_count = edges_few;
        edges = edges-good;
      }

-- a whole entry's terms are good where they are good with a core and edges
whole-terms : (t : Terms) → GoodTerms t → GoodTerms (whole_terms t)
whole-terms t g =
    record {
      transaction = g.transaction;
      at = g.at;
      end = g.end;
      anchor = g.anchor;
      charge = g.charge;
      routes = g.routes;
      core_shards = record { size = omega arith; each = tt };
      rising = tt;
      edge_count = omega arith;
      edges = tt;
    }

-- a new entry: its terms good, its part fit
new_good : (local : ℕ) (q : Part) (t : Terms) (certificate departed_by : ℕ) → GoodTerms t → certificate ≤ 2 → is_departed_by departed_by ≡ true →
    GoodPart q local t [] false → GoodEntry local (entry q t certificate departed_by)
new_good local q t certificate departed_by g c n h =
    record { terms = g; certificate = c; departed_by = n; absence_count = omega arith; absences = tt; absence_order = tt; part = h }

unmarked : Unmarked [] false
unmarked = record { none = refl; returned = refl }

decomposed-good : (local : ℕ) (ws : List ℕ) → GoodTerms (admission_terms ws) →
    GoodEntry local (entry (cond (has self local (core_in ws)) core leg) (admission_terms ws) 0 0)
unfolding admission_terms
decomposed-good local ws g = go (has self local (core_in ws)) refl
  where
    go : (b : Bool) → has self local (core_in ws) ≡ b → GoodEntry local (entry (cond b core leg) (admission_terms ws) 0 0)
    go true h = new_good local core (admission_terms ws) 0 0 g (omega arith) refl (h, unmarked)
    go false h =
        new_good local leg (admission_terms ws) 0 0 g (omega arith) refl
        (h, record { rising = tt; among = tt; returned = λ q. q })

pub admitted-good : (local : ℕ) (ws : List ℕ) → Every (Holds is_word) ws → admission_formed ws ≡ true → admission_timed ws ≡ true →
    admission_placed ws ≡ true → GoodEntry local (admitted local ws)
unfolding admitted
admitted-good local ws v f t s =
    let g = terms-good ws v (formed ws f) t s in
    by_cond (GoodEntry local) (eqb (decomposed ws) 0) _ _
    (λ _. new_good local whole (whole_terms (admission_terms ws)) 0 0 (whole-terms (admission_terms ws) g) (omega arith) refl (refl, refl, unmarked))
    (λ _. decomposed-good local ws g)

-- the groups of a record: good terms, with no core and no edges
pub record GoodGroup (t : Terms) : Type 0 where
  pub terms : GoodTerms t
  pub coreless : t.core_shards ≡ []
  pub edgeless : t.edges ≡ []

group_good : (ws routes : List ℕ) → Every (Holds is_word) ws → (length routes ≤ 8) × Every (Holds is_word) routes → timed (group_terms ws routes) ≡ true → GoodGroup (group_terms ws routes)
group_good ws routes v r t =
    let times = each_of (is_time (word 1 ws) ∷ is_time (word 2 ws) ∷ is_time (word 3 ws) ∷ []) t in
    record {
      terms =
          record {
            transaction = words-at 0 ws v;
            at = times.0;
            end = times.1.0;
            anchor = times.1.1.0;
            charge = words-at 4 ws v;
            routes = record { size = r.0; each = r.1 };
            core_shards = record { size = omega arith; each = tt };
            rising = tt;
            edge_count = omega arith;
            edges = tt;
          };
      coreless = refl;
      edgeless = refl;
    }

groups_from_lem : (i : ℕ) (reaches : List (List ℕ)) (ws : List ℕ) → Every (Holds is_word) ws → Every (λ m. (length m ≤ 8) × Every (Holds is_word) m) reaches →
    Every (λ t. timed t ≡ true) (groups_from i reaches ws) → Every GoodGroup (groups_from i reaches ws)
groups_from_lem i [] ws v r t = tt
groups_from_lem i (routes ∷ more) ws v r t =
    (group_good (drop i ws) routes (every_drop (Holds is_word) i ws v) r.0 t.0, groups_from_lem (i + (transaction_size + 4)) more ws v r.1 t.1)

pub groups_good : (ws : List ℕ) → Every (Holds is_word) ws → record_formed ws ≡ true → record_timed ws ≡ true → Every GoodGroup (record_groups ws)
unfolding record_groups record_formed record_timed
groups_good ws v f t =
    let limits = (each_of (record_tests ws) f).1.1.0 in
    groups_from_lem (groups_at ws) (cut (reach_sizes ws) (drop (reaches_at ws) ws)) ws v
    (every_cut (Holds is_word) 8 (reach_sizes ws) (drop (reaches_at ws) ws) (every_all (λ n. leb n 8) (reach_sizes ws) limits) (every_drop (Holds is_word) (reaches_at ws) ws v))
    (every_all timed (record_groups ws) t)

pub rebuilt-good : (local shard : ℕ) (t : Terms) → is_shard shard ≡ true → is_departed_by shard ≡ true → GoodGroup t → GoodEntry local (rebuilt shard t)
rebuilt-good local shard t s n g =
    new_good local whole t 2 shard g.terms (omega arith) n (g.coreless, g.edgeless, unmarked)
