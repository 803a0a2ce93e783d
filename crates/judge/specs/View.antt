-- What a view shows of the departures on file at a clock.
use Rattle.std.specs.Prelude.{ℕ, ◌≡◌, ◌<◌, List, length, get_or}
use Rattle.std.specs.Int.Count.{count_leading_zeros}
use Rattle.std.proofs.Math.Option.{none}
use Rattle.rules.specs.Plain.{Departure}
use Rattle.rules.specs.Prune.{readable}
use Rattle.rules.specs.Good.{GoodDepartures}
use Rattle.judge.specs.declared.views.Seen.{Seen}
use Rattle.judge.specs.declared.views.View.{View}

abbrev pub cut_of : Departure → ℕ
cut_of d = d.cut

-- the leading zeros of a departure's shard
abbrev pub zeros_of : Departure → ℕ
zeros_of d = count_leading_zeros 64 d.shard

-- the departure as it is seen: with no stamp, in whose place stands whether it is readable
abbrev pub departure_of : Seen → Departure
departure_of x = record { shard = x.shard.0; cut = x.cut.0; stamp = none }

-- a departure's shard, its leading zeros, its cut, and whether it is readable
pub record Sees (now : ℕ) (d : Departure) (x : Seen) : Type 0 where
  pub shard : x.shard.0 ≡ d.shard
  pub zeros : x.zeros ≡ zeros_of d
  pub cut : x.cut.0 ≡ cut_of d
  pub readable : x.is_readable ≡ readable now d

-- in order, each departure
pub record Shows (ds : List Departure) (now : ℕ) (v : View) : Type 0 where
  pub good : GoodDepartures ds
  pub count : length ds ≡ v.seen.len
  pub seen : (j : ℕ) (d : Departure) (x : Seen) → j < v.seen.len → Sees now (get_or ds j d) (get_or v.seen.items j x)
