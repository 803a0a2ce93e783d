-- Paper, 'Kept, left, written anew': the stand-ins. Words, times, shards, spans; ownership of a route; record and cell keys.
use Rattle.std.specs.Prelude.{ℕ, zero, suc, ◌+◌, ◌-◌, ◌/◌, ◌%◌, ◌^◌, Bool, cond, ◌&&◌, List, [], ◌∷◌, eqb, ltb, leb}

-- a word is an unsigned 64-bit number
abbrev pub is_word : ℕ → Bool
is_word n = ltb n (2 ^ 64)

-- a time is 0 to 2^48 − 1
abbrev pub is_time : ℕ → Bool
is_time n = ltb n (2 ^ 48)

-- a shard is 1 to 2^33 − 1
abbrev pub is_shard : ℕ → Bool
is_shard n = leb 1 n && ltb n (2 ^ 33)

-- a span is 1 to 2^40
abbrev pub is_span : ℕ → Bool
is_span n = leb 1 n && leb n (2 ^ 40)

-- the place of the highest one bit, counted from 0, of a number below 2^(limit + 1)
abbrev pub highest_bit : ℕ → ℕ → ℕ
highest_bit zero n = 0
highest_bit (suc limit) n = cond (leb (2 ^ suc limit) n) (suc limit) (highest_bit limit n)

-- a shard's depth is the place of its highest one bit
unfoldable pub depth : ℕ → ℕ
depth shard = highest_bit 32 shard

-- the top d bits of a route
abbrev pub top_bits : ℕ → ℕ → ℕ
top_bits d route = route / 2 ^ (64 - d)

-- a shard owns a route when the route's top depth bits equal the shard less its highest one bit
unfoldable pub owns : ℕ → ℕ → Bool
unfolding depth
owns shard route = eqb (top_bits (depth shard) route) (shard - 2 ^ depth shard)

-- the shard that a trie of uniform depth d has for a route
abbrev pub shard_for_route : ℕ → ℕ → ℕ
shard_for_route d route = 2 ^ d + top_bits d route

-- the record key of a crossing's id
abbrev pub record_key : ℕ → ℕ
record_key id = id % 2 ^ 32

-- the cell key of a transaction on a shard
abbrev pub cell_key : ℕ → ℕ → ℕ → ℕ
cell_key transaction end shard = (transaction + end + shard) % 2 ^ 64

-- n numbers, the first of them and each next one above the one before
abbrev pub count_from : (first n : ℕ) → List ℕ
count_from first zero = []
count_from first (suc n) = first ∷ count_from (suc first) n

-- limits
abbrev pub max_entries : ℕ
max_entries = 48

abbrev pub max_departures : ℕ
max_departures = 32

abbrev pub max_routes : ℕ
max_routes = 8

abbrev pub max_core : ℕ
max_core = 8

abbrev pub max_edges : ℕ
max_edges = 8

abbrev pub max_destinations : ℕ
max_destinations = 4

abbrev pub max_absences : ℕ
max_absences = 8

abbrev pub max_marks : ℕ
max_marks = 8

abbrev pub max_items : ℕ
max_items = 64

abbrev pub max_pairs : ℕ
max_pairs = 384

abbrev pub max_depth : ℕ
max_depth = 32

-- marks of a tree, and how deep its leaves may lie
abbrev pub max_tree : ℕ
max_tree = 63

abbrev pub max_height : ℕ
max_height = 16

-- shards with a count of rebuilt entries
abbrev pub max_counts : ℕ
max_counts = 32

-- a count of rebuilt entries stops here, and so does their sum
abbrev pub max_count : ℕ
max_count = 2 ^ 64 - 1
