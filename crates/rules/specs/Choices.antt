-- The three steps that find the departure that counts, on an example: five departures, of which four own the route 2^62.
use Rattle.std.specs.Prelude.{ℕ, ◌^◌, ◌≡◌, refl, List, [], ◌∷◌, ◌++◌, map}
use Rattle.std.proofs.Math.Option.{none}
use Rattle.rules.specs.Numbers.{depth, owns}
use Rattle.rules.specs.Plain.{Departure, shard_of}
use Rattle.rules.specs.Over.{owners, cuts_after, smallest_cut, counting, left_by}
use Rattle.rules.specs.Instances.{Row}

abbrev left_at : (shard cut : ℕ) → Departure
left_at shard cut = record { shard = shard; cut = cut; stamp = none }

abbrev file : List Departure
file = left_at 1 12 ∷ left_at 2 11 ∷ left_at 5 11 ∷ left_at 6 11 ∷ left_at 10 15 ∷ []

abbrev shards : List Departure → List ℕ
shards ds = map shard_of ds

-- the shard that counts over 2^62 for an entry with this anchor
abbrev counts_from : ℕ → List ℕ
counts_from anchor = shards (left_by (counting anchor (2 ^ 62) file))

abbrev pub table : List Row
table =
    record {
      name = "owners: all but 6 own 2^62, 1 and 6 own 2^63";
      given = shards (owners (2 ^ 62) file) ++ shards (owners (2 ^ 63) file);
      stated = 1 ∷ 2 ∷ 5 ∷ 10 ∷ 1 ∷ 6 ∷ [];
    }
    ∷ record {
      name = "cuts after 11: those of 1 and 10; after 15: none";
      given = shards (cuts_after 11 file) ++ shards (cuts_after 15 file);
      stated = 1 ∷ 10 ∷ [];
    }
    ∷ record {
      name = "the smallest cut: 11, of which 2 is the lower shard; alone: itself; of none: none";
      given = shards (left_by (smallest_cut file)) ++ shards (left_by (smallest_cut (left_at 10 15 ∷ []))) ++ shards (left_by (smallest_cut []));
      stated = 2 ∷ 10 ∷ [];
    }
    ∷ record {
      name = "anchor 10: 2 counts; 11: 1, though 2 and 5 have smaller cuts; 12: 10; 15: none";
      given = counts_from 10 ++ counts_from 11 ++ counts_from 12 ++ counts_from 15;
      stated = 2 ∷ 1 ∷ 10 ∷ [];
    }
    ∷ []

pub choices : map (λ (r : Row). r.given) table ≡ map (λ (r : Row). r.stated) table
unfolding depth owns
choices = refl
