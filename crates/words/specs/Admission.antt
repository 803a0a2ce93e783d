-- The tests of an admission's form in four rows, in their order, and what the first of them allow to read.
use Rattle.std.specs.Prelude.{ℕ, ◌+◌, ◌≤◌, ◌≡◌, Bool, List, [], ◌∷◌, eqb, leb, length, drop}
use Rattle.lists.specs.Lists.{all, ascending, total, self, part}
use Rattle.rules.specs.Numbers.{max_routes, max_core, max_edges, max_destinations}
use Rattle.rules.specs.Words.{within, edges_at, route_count, core_count, edge_count, decomposed, routes_at, destinations_at, core_in, froms, kinds, sizes, destinations}

abbrev pub count_tests : List ℕ → List Bool
count_tests ws =
    leb (routes_at ws) (length ws)
    ∷ leb (route_count ws) max_routes
    ∷ leb (core_count ws) max_core
    ∷ leb (edge_count ws) max_edges
    ∷ []

abbrev pub size_tests : List ℕ → List Bool
size_tests ws = within max_destinations (sizes ws) ∷ eqb (length ws) (destinations_at ws + total self (sizes ws)) ∷ []

abbrev pub code_tests : List ℕ → List Bool
code_tests ws = leb (decomposed ws) 1 ∷ within 1 (kinds ws) ∷ []

abbrev pub order_tests : List ℕ → List Bool
order_tests ws = ascending self (core_in ws) ∷ all (ascending self) (destinations ws) ∷ []

-- the sizes that come first are there, each within its limit
pub record Counted (ws : List ℕ) : Type 0 where
  pub figures : 9 ≤ length ws
  pub routes : route_count ws ≤ 8
  pub core : core_count ws ≤ 8
  pub edges : edge_count ws ≤ 8

-- and all that precedes the destinations is there
pub record Sized (ws : List ℕ) : Type 0 where
  pub counted : Counted ws
  pub room : destinations_at ws ≤ length ws

-- words taken apart: routes, core shards, the edges' ids, from-shards, kinds and sizes, and what is behind them
pub record Split (ws r c i f k n t : List ℕ) : Type 0 where
  pub sized : Sized ws
  pub routes : r ≡ part (routes_at ws) (route_count ws) ws
  pub core : c ≡ core_in ws
  pub ids : i ≡ part (edges_at ws) (edge_count ws) ws
  pub froms : f ≡ froms ws
  pub kinds : k ≡ kinds ws
  pub sizes : n ≡ sizes ws
  pub to : t ≡ drop (destinations_at ws) ws
