-- Paper, 'Words that come in': sizes first, then parallel arrays. What the words say, and what 5, 3 and 4 ask of them.
use Rattle.std.specs.Prelude.{ℕ, ◌+◌, ◌*◌, Bool, ◌&&◌, List, [], ◌∷◌, ◌++◌, map, eqb, leb, length, get_or, drop}
use Rattle.lists.specs.Lists.{keep, all, all_of, filled, ascending, total, zip_by, concat_map, self, part, cut}
use Rattle.rules.specs.Numbers.{is_time, is_shard, max_entries, max_routes, max_core, max_edges, max_destinations, max_items}
use Rattle.rules.specs.Plain.{Edge, Terms}

abbrev pub word : ℕ → List ℕ → ℕ
word i ws = get_or ws i 0

-- The words of a transaction, and a transaction read at a place: a later width changes only these.
abbrev pub transaction_size : ℕ
transaction_size = 1

abbrev pub transaction_at : ℕ → List ℕ → ℕ
transaction_at i ws = word i ws

abbrev pub transaction_words : ℕ → List ℕ
transaction_words t = t ∷ []

-- transactions joined, taken apart
abbrev pub transactions_in : List ℕ → List ℕ
transactions_in ws = ws

-- each size is within its limit
abbrev pub within : ℕ → List ℕ → Bool
within limit sizes = all (λ n. leb n limit) sizes

abbrev pub edge : ℕ → ℕ → ℕ → List ℕ → Edge
edge id from kind to = record { id = id; from = from; kind = kind; to = to }

-- one argument more
abbrev pub with : {A B : Type 0} → (A → B) → A → B
with f x = f x

-- Admission: r, c, e; transaction, at, end, anchor, charge, decomposed; r routes; c core shards;
-- e ids, e from-shards, e kinds, e destination sizes; destinations joined.
module _ (ws : List ℕ) where
  abbrev pub route_count : ℕ
  route_count = word 0 ws

  abbrev pub core_count : ℕ
  core_count = word 1 ws

  abbrev pub edge_count : ℕ
  edge_count = word 2 ws

  abbrev pub figures_at : ℕ
  figures_at = 3 + transaction_size

  abbrev pub decomposed : ℕ
  decomposed = word (figures_at + 4) ws

  abbrev pub routes_at : ℕ
  routes_at = figures_at + 5

  abbrev pub core_at : ℕ
  core_at = routes_at + route_count

  abbrev pub edges_at : ℕ
  edges_at = core_at + core_count

  abbrev pub destinations_at : ℕ
  destinations_at = edges_at + 4 * edge_count

  abbrev pub core_in : List ℕ
  core_in = part core_at core_count ws

  abbrev pub froms : List ℕ
  froms = part (edges_at + edge_count) edge_count ws

  abbrev pub kinds : List ℕ
  kinds = part (edges_at + 2 * edge_count) edge_count ws

  abbrev pub sizes : List ℕ
  sizes = part (edges_at + 3 * edge_count) edge_count ws

  abbrev pub destinations : List (List ℕ)
  destinations = cut sizes (drop destinations_at ws)

  abbrev pub edges_in : List Edge
  edges_in =
      zip_by with (zip_by with (zip_by edge (part edges_at edge_count ws) froms) kinds) destinations

  unfoldable pub admission_terms : Terms
  admission_terms =
      record {
        transaction = transaction_at 3 ws;
        at = word figures_at ws;
        end = word (figures_at + 1) ws;
        anchor = word (figures_at + 2) ws;
        charge = word (figures_at + 3) ws;
        routes = part routes_at route_count ws;
        core_shards = core_in;
        edges = edges_in;
      }

  -- 5: the length, a size, an unknown code, a core or destination list that does not rise strictly
  abbrev pub admission_tests : List Bool
  admission_tests =
      leb routes_at (length ws)
      ∷ leb route_count max_routes
      ∷ leb core_count max_core
      ∷ leb edge_count max_edges
      ∷ within max_destinations sizes
      ∷ eqb (length ws) (destinations_at + total self sizes)
      ∷ leb decomposed 1
      ∷ within 1 kinds
      ∷ ascending self core_in
      ∷ all (ascending self) destinations
      ∷ []

  unfoldable pub admission_formed : Bool
  admission_formed = all_of admission_tests

  -- 3: each time; 4: each shard
  unfoldable pub admission_timed : Bool
  admission_timed = all_of (is_time (word figures_at ws) ∷ is_time (word (figures_at + 1) ws) ∷ is_time (word (figures_at + 2) ws) ∷ [])

  unfoldable pub admission_placed : Bool
  admission_placed = all_of (all is_shard core_in ∷ all is_shard froms ∷ all is_shard (drop destinations_at ws) ∷ [])

-- the other way: the words of edges, and of terms, with decomposed before the lists
abbrev pub edge_words : List Edge → List ℕ
edge_words gs =
    map (λ (g : Edge). g.id) gs
    ++ (map (λ (g : Edge). g.from) gs
    ++ (map (λ (g : Edge). g.kind) gs
    ++ (map (λ (g : Edge). length g.to) gs
    ++ concat_map (λ (g : Edge). g.to) gs)))

abbrev pub admission_words : ℕ → Terms → List ℕ
admission_words is_decomposed t =
    length t.routes
    ∷ length t.core_shards
    ∷ length t.edges
    ∷ (transaction_words t.transaction
    ++ (t.at
    ∷ t.end
    ∷ t.anchor
    ∷ t.charge
    ∷ is_decomposed
    ∷ (t.routes ++ (t.core_shards ++ edge_words t.edges))))

-- Abandonment record: n, shard; n reach sizes; n groups of transaction, at, end, anchor, charge; routes joined.
module _ (ws : List ℕ) where
  abbrev pub group_count : ℕ
  group_count = word 0 ws

  abbrev pub record_shard : ℕ
  record_shard = word 1 ws

  abbrev pub reach_sizes : List ℕ
  reach_sizes = part 2 group_count ws

  abbrev pub group_size : ℕ
  group_size = transaction_size + 4

  abbrev pub groups_at : ℕ
  groups_at = 2 + group_count

  abbrev pub reaches_at : ℕ
  reaches_at = groups_at + group_size * group_count

-- a group and its routes as an entry's terms
abbrev pub group_terms : List ℕ → List ℕ → Terms
group_terms ws routes =
    record {
      transaction = transaction_at 0 ws;
      at = word transaction_size ws;
      end = word (transaction_size + 1) ws;
      anchor = word (transaction_size + 2) ws;
      charge = word (transaction_size + 3) ws;
      routes = routes;
      core_shards = [];
      edges = [];
    }

-- a group for each reach, the first at a place
abbrev pub groups_from : ℕ → List (List ℕ) → List ℕ → List Terms
groups_from i [] ws = []
groups_from i (routes ∷ more) ws = group_terms (drop i ws) routes ∷ groups_from (i + (transaction_size + 4)) more ws

unfoldable pub record_groups : List ℕ → List Terms
record_groups ws = groups_from (groups_at ws) (cut (reach_sizes ws) (drop (reaches_at ws) ws)) ws

abbrev pub record_tests : List ℕ → List Bool
record_tests ws =
    leb 2 (length ws)
    ∷ leb (group_count ws) max_entries
    ∷ within max_routes (reach_sizes ws)
    ∷ eqb (length ws) (reaches_at ws + total self (reach_sizes ws))
    ∷ []

unfoldable pub record_formed : List ℕ → Bool
record_formed ws = all_of (record_tests ws)

abbrev pub timed : Terms → Bool
timed t = all_of (is_time t.at ∷ is_time t.end ∷ is_time t.anchor ∷ [])

unfoldable pub record_timed : List ℕ → Bool
unfolding record_groups
record_timed ws = all timed (record_groups ws)

-- Finalization: n, m; n transactions; n decisions (1 Accept, 2 Aborted, 3 any other); m deciding transactions.
pub record Line : Type 0 where
  pub transaction : ℕ
  pub decision : ℕ

module _ (ws : List ℕ) where
  abbrev pub line_count : ℕ
  line_count = word 0 ws

  abbrev pub deciding_count : ℕ
  deciding_count = word 1 ws

  abbrev pub decisions_at : ℕ
  decisions_at = 2 + transaction_size * line_count

  abbrev pub deciding_at : ℕ
  deciding_at = decisions_at + line_count

  abbrev pub decisions : List ℕ
  decisions = part decisions_at line_count ws

  unfoldable pub finalization_lines : List Line
  finalization_lines =
      zip_by (λ (t d : ℕ). record { transaction = t; decision = d })
      (transactions_in (part 2 (transaction_size * line_count) ws))
      decisions

  unfoldable pub deciding : List ℕ
  deciding = transactions_in (part deciding_at (transaction_size * deciding_count) ws)

  abbrev pub finalization_tests : List Bool
  finalization_tests =
      leb 2 (length ws)
      ∷ leb line_count max_entries
      ∷ leb deciding_count max_entries
      ∷ eqb (length ws) (deciding_at + transaction_size * deciding_count)
      ∷ all (λ d. leb 1 d && leb d 3) decisions
      ∷ []

  unfoldable pub finalization_formed : Bool
  finalization_formed = all_of finalization_tests

-- Bundle: n; n kinds; n lengths; the items' words joined. Kinds are 1 terminal, 2 abandonment record, 3 finalization, 4 admission, 5 absence.
pub record Item : Type 0 where
  pub kind : ℕ
  pub words : List ℕ

abbrev pub is_kind : ℕ → Item → Bool
is_kind k i = eqb i.kind k

module _ (ws : List ℕ) where
  abbrev pub item_count : ℕ
  item_count = word 0 ws

  abbrev pub items_at : ℕ
  items_at = 1 + 2 * item_count

  abbrev pub item_kinds : List ℕ
  item_kinds = part 1 item_count ws

  abbrev pub item_lengths : List ℕ
  item_lengths = part (1 + item_count) item_count ws

  -- at most 64 items are named, and both arrays stand whole
  unfoldable pub bundle_whole : Bool
  bundle_whole = all_of (filled ws ∷ leb item_count max_items ∷ leb items_at (length ws) ∷ [])

  unfoldable pub bundle_known : Bool
  bundle_known = all (λ k. leb 1 k && leb k 5) item_kinds

  -- the lengths make up the rest
  unfoldable pub bundle_measured : Bool
  bundle_measured = eqb (length ws) (items_at + total self item_lengths)

  abbrev pub items_written : List Item
  items_written = zip_by (λ (k : ℕ) (l : List ℕ). record { kind = k; words = l }) item_kinds (cut item_lengths (drop items_at ws))

  -- by rising kind and, within a kind, as written
  unfoldable pub bundle_items : List Item
  bundle_items = concat_map (λ k. keep (is_kind k) items_written) (1 ∷ 2 ∷ 3 ∷ 4 ∷ 5 ∷ [])
