-- What the ledger holds, as a plain ledger, and what every ledger that a call handed back has.
use Rattle.std.specs.Prelude.{ℕ, ◌≡◌, List, [], map, length, get_or, set}
use Rattle.rules.specs.Plain as plain
use Rattle.rules.specs.Plain.{Plain, transaction_of}
use Rattle.rules.specs.Entries as rules
use Rattle.rules.specs.Index.{index}
use Rattle.rules.specs.Good.{Good}
use Rattle.entry.specs.declared.Entry.{Entry}
use Rattle.entry.specs.Entry.{plain_entry}
use Rattle.store.specs.Roster.{keys_of, slots_of}
use Rattle.store.specs.Issuers as issuers
use Rattle.store.specs.Departures.{on_file}
use Rattle.store.specs.Counts.{counts_in}
use Rattle.store.specs.declared.roster.Roster.{Roster}
use Rattle.store.specs.declared.issuers.Issuers.{Issuers}
use Rattle.store.specs.declared.departures.Departures.{Departures}
use Rattle.store.specs.declared.counts.Counts.{Counts}
use Rattle.ledger.specs.declared.Ledger.{Ledger}

-- what stands for an entry past the slots, where nothing is ever read
abbrev pub no_entry : plain.Entry
no_entry =
    rules.entry plain.whole
    (record { transaction = 0; at = 0; end = 0; anchor = 0; charge = 0; routes = []; core_shards = []; edges = [] })
    0 0

-- the entry in a slot
abbrev pub entry_in : List Entry → ℕ → plain.Entry
entry_in es slot = get_or (map plain_entry es) slot no_entry

-- the entries by rising transaction
abbrev pub entries_of : Ledger → List plain.Entry
entries_of l = map (entry_in l.entries) (slots_of l.roster)

unfoldable pub contents : Ledger → Plain
contents l =
    record {
      local = l.local.0;
      validity = l.validity;
      core_span = l.core_span;
      leg_span = l.leg_span;
      entries = entries_of l;
      departures = on_file l.departures;
      counts = counts_in l.counts;
    }

-- the roster's keys are the entries' transactions, the index is the one that the entries give, and the contents are good; that the parts
-- are sound, their types say
pub record Held (l : Ledger) : Type 0 where
  pub keyed : keys_of l.roster ≡ map transaction_of (entries_of l)
  pub issuers : issuers.Holds (index (contents l)) l.issuers
  pub good : Good (contents l)

-- r is in use, and has the contents p
pub record Became (p : Plain) (r : Ledger) : Type 0 where
  pub held : Held r
  pub holds : contents r ≡ p

-- the ledger with other parts: counts, roster, as many entries, index and departures
abbrev pub with_parts : Ledger → Counts → Roster → (es : List Entry) → Issuers → Departures → length es ≡ 48 → Ledger
with_parts l n r es x d s =
    record {
      local = l.local;
      validity = l.validity;
      core_span = l.core_span;
      leg_span = l.leg_span;
      counts = n;
      roster = r;
      entries = es;
      issuers = x;
      departures = d;
      slots = s;
    }

-- the ledger with other counts, and with another entry in a slot
abbrev pub counting : (l : Ledger) → Counts → length l.entries ≡ 48 → Ledger
counting l n s = with_parts l n l.roster l.entries l.issuers l.departures s

abbrev pub storing : (l : Ledger) (slot : ℕ) (e : Entry) → length (set l.entries slot e) ≡ 48 → Ledger
storing l slot e s = with_parts l l.counts l.roster (set l.entries slot e) l.issuers l.departures s

-- the slot at a place of the roster, and the entry that lies there; d is read where there is none
abbrev pub slot_at : Ledger → ℕ → ℕ
slot_at l k = get_or l.roster.slots k 0

abbrev pub lying_at : Ledger → ℕ → Entry → Entry
lying_at l k d = get_or l.entries (slot_at l k) d
