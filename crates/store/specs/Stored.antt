-- How what is stored reads as the rules have it.
use Rattle.std.specs.Prelude.{ℕ, Bool, ◌&&◌, ◌||◌, eqb, ltb, Option, Some, None}
use Rattle.std.proofs.Math.Option as maths
use Rattle.std.proofs.Math.Option.{none, some}
use Rattle.rules.specs.Plain as plain
use Rattle.rules.specs.Index.{Pair}
use Rattle.types.specs.declared.Time.{Time}
use Rattle.store.specs.declared.departures.Departure.{Departure}
use Rattle.store.specs.declared.counts.Count.{Count}

-- the stamp as the rules have it
abbrev pub stamp_of : Option Time → maths.Option ℕ
stamp_of None = none
stamp_of (Some t) = some t.0

abbrev pub plain_departure : Departure → plain.Departure
plain_departure d = record { shard = d.shard.0; cut = d.cut.0; stamp = stamp_of d.until }

abbrev pub plain_count : Count → plain.Count
plain_count c = record { shard = c.shard.0; rebuilt = c.rebuilt }

abbrev pub pair : ℕ → ℕ → Pair
pair r t = record { key = r; transaction = t }

-- the pair of the record and the transaction
abbrev pub is_pair : ℕ → ℕ → Pair → Bool
is_pair r t q = eqb q.key r && eqb q.transaction t

-- by record, then by transaction
abbrev pub leads_pair : ℕ → ℕ → ℕ → ℕ → Bool
leads_pair a b r t = ltb a r || (eqb a r && ltb b t)
