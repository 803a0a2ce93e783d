-- What is seen of the departures on file, gone through from the front.
-- Assumes nothing.
use Prim.Native.Nat.{ℕ, ◌<◌}
use mathlib.Core.Path.{◌≡◌, sym, ap, ◌∙◌}
use mathlib.Core.Bool.{true}
use mathlib.Core.List.{List, map}
use native.Mathlib.Omega.{arith}
use lib.Count.{count_leading_zeros}
use lib.ListN.{length, get_or, get_or-map}
use Rattle.lists.specs.Lists.{Every}
use Rattle.lists.specs.Front.{held}
use Rattle.lists.proofs.Held.{held-length}
use Rattle.lists.proofs.Distinct.{every_at}
use Rattle.lists.proofs.Maps.{get_d_any}
use Rattle.rules.specs.Numbers.{is_shard}
use Rattle.rules.specs.Plain as plain
use Rattle.rules.specs.Good.{GoodDeparture}
use Rattle.types.proofs.Bits.{topped}
use Rattle.store.specs.declared.departures.Departure.{Departure}
use Rattle.store.specs.declared.departures.Departures.{Departures}
use Rattle.store.specs.Departures.{on_file, plain_departure}
use Rattle.store.proofs.Filed.{file-length}

pub few_zeros : (n : ℕ) → is_shard n ≡ true → count_leading_zeros 64 n < 64
few_zeros n h = omega (arith, (topped n h).zeros)

-- what is said of the departures on file at a place, by a slice of those stored
module _ (x : Departures) (items : List Departure) (e : items ≡ held x.front) (i : ℕ) (h : i < length items) where
  within : i < length (on_file x)
  within = omega (arith, file-length x, ap length e, held-length x.front)

  pub place_on_file : (p : plain.Departure) (d : Departure) → get_or (on_file x) i p ≡ plain_departure (get_or items i d)
  place_on_file p d =
      get_d_any (on_file x) i p (plain_departure d) within
      ∙ ap (λ l. get_or (map plain_departure l) i (plain_departure d)) (sym e) ∙ get_or-map plain_departure items i d

  pub good_at : (d : Departure) → Every GoodDeparture (on_file x) → GoodDeparture (plain_departure (get_or items i d))
  good_at d g = rw (sym (place_on_file (plain_departure d) d)) (every_at GoodDeparture (plain_departure d) i (on_file x) within g)
