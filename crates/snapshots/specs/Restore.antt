-- What is read from a snapshot's words, where all of it is such as is written; and what is said of the rest.
use Rattle.std.specs.Prelude.{ℕ, ◌≤◌, ◌≡◌, Bool, true, ◌&&◌, List, [], map, length, Err}
use Rattle.lists.specs.Lists.{all, ascending, total, self, cut}
use Rattle.rules.specs.Plain.{Plain, transaction_of, shard_of, counted_shard, empty, with_entries, with_departures, with_counts}
use Rattle.rules.specs.Words.{word}
use Rattle.rules.specs.Calls.{not_made}
use Rattle.rules.specs.Snapshot.{count_in, count_sound, count_parts, departure_in, departure_sound, departure_parts, entry_formed, entry_in, entry_sound, entry_parts, snapshot_formed, ledger_in}
use Rattle.store.specs.declared.counts.Counts.{Counts}
use Rattle.store.specs.Counts as counts
use Rattle.store.specs.declared.departures.Departures.{Departures}
use Rattle.store.specs.Departures as departures
use Rattle.types.specs.declared.refusal.Refusal.{Refusal}
use Rattle.ledger.specs.declared.Ledger.{Ledger}
use Rattle.ledger.specs.declared.Done.{Done}
use Rattle.ledger.specs.Contents.{contents, Held, Became}

-- parts of words, each asked whether it is sound, and what is read of them whether it rises
module _ {A : Type 0} (key : A → ℕ) (sound : List ℕ → Bool) (read : List ℕ → A) where
  abbrev pub parts_sound : List (List ℕ) → Bool
  parts_sound parts = all sound parts && ascending key (map read parts)

  -- whether they do, and where they do, that x holds what they say
  pub record Filed {X : Type 0} (Holds : List A → X → Type 0) (parts : List (List ℕ)) (x : X) (b : Bool) : Type 0 where
    pub said : b ≡ parts_sound parts
    pub filed : b ≡ true → Holds (map read parts) x

-- of counts, of departures, and of entries
abbrev pub counts_sound : List (List ℕ) → Bool
counts_sound parts = parts_sound counted_shard count_sound count_in parts

abbrev pub departures_sound : List (List ℕ) → Bool
departures_sound parts = parts_sound shard_of departure_sound departure_in parts

abbrev pub entries_sound : ℕ → List (List ℕ) → Bool
entries_sound local parts = parts_sound transaction_of (entry_sound local) entry_in parts

-- counts put in, and departures put on file
abbrev pub Counted : List (List ℕ) → Counts → Bool → Type 0
Counted parts x b = Filed counted_shard count_sound count_in counts.Holds parts x b

abbrev pub Files : List (List ℕ) → Departures → Bool → Type 0
Files parts x b = Filed shard_of departure_sound departure_in departures.Holds parts x b

-- a ledger without entries, and the words of entries whose form stands
pub record Empty (lengths joined : List ℕ) (l : Ledger) : Type 0 where
  pub held : Held l
  pub none : (contents l).entries ≡ []
  pub few : length lengths ≤ 48
  pub room : total self lengths ≤ length joined
  pub formed : all entry_formed (cut lengths joined) ≡ true

-- whether what was read is sound, and where it is, what the ledger became
pub record Puts (sound : Bool) (p : Plain) (l : Ledger) (b : Bool) : Type 0 where
  pub said : b ≡ sound
  pub became : b ≡ true → Became p l

-- entries taken in, and counts and departures
abbrev pub Takes : List (List ℕ) → Ledger → Ledger → Bool → Type 0
Takes parts before after b = Puts (entries_sound before.local.0 parts) (with_entries (map entry_in parts) (contents before)) after b

abbrev pub TakesCounts : List (List ℕ) → Ledger → Ledger → Bool → Type 0
TakesCounts parts before after b = Puts (counts_sound parts) (with_counts (map count_in parts) (contents before)) after b

abbrev pub TakesDepartures : List (List ℕ) → Ledger → Ledger → Bool → Type 0
TakesDepartures parts before after b = Puts (departures_sound parts) (with_departures (map departure_in parts) (contents before)) after b

-- a ledger made with the snapshot's local and spans, and words whose form stands
pub record Made (ws : List ℕ) (l : Ledger) : Type 0 where
  pub formed : snapshot_formed ws ≡ true
  pub made : Became (empty (word 0 ws) (word 1 ws) (word 2 ws) (word 3 ws)) l

-- a ledger in use, and words whose form stands
pub record Ready (ws : List ℕ) (l : Ledger) : Type 0 where
  pub formed : snapshot_formed ws ≡ true
  pub held : Held l

-- all that the words say
abbrev pub whole_sound : List ℕ → Bool
whole_sound ws = counts_sound (count_parts ws) && (departures_sound (departure_parts ws) && entries_sound (word 0 ws) (entry_parts ws))

abbrev pub Fills : List ℕ → Ledger → Bool → Type 0
Fills ws l b = Puts (whole_sound ws) (ledger_in ws) l b

-- a refusal, with the ledger of a refused making
pub record Refused (refusal : Refusal) (r : Done) : Type 0 where
  pub said : r.said ≡ Err refusal
  pub became : Became not_made r.ledger
