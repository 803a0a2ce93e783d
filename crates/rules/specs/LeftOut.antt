-- When prunes that were left out do not show. A list of calls with prunes in it is made on one ledger; on another the same calls are
-- made without the prunes. What is demanded of the calls is said of the second ledger alone, and can be computed.
use Rattle.std.specs.Prelude.{ℕ, ◌+◌, ◌≤◌, ◌≡◌, Bool, true, false, cond, not, ◌&&◌, ◌||◌, List, [], ◌∷◌, ◌++◌, map, eqb, leb, length}
use Rattle.std.proofs.Math.Option.{none}
use Rattle.lists.specs.Lists.{cons_if, keep, all, all_of, filled, has, concat_map, total, Every}
use Rattle.rules.specs.Plain.{Terms, Entry, Departure, Plain, transaction_of, shard_of, with_entries, with_departures, owed}
use Rattle.rules.specs.Words.{admission_terms, record_shard, record_groups, Line, finalization_lines, bundle_items}
use Rattle.rules.specs.Entries.{admitted, rebuilt}
use Rattle.rules.specs.Prune.{Report, survivors, fallen, reports, holds, remains, pruned, in_order}
use Rattle.rules.specs.Outcome.{said, if_done}
use Rattle.rules.specs.Calls.{Call, admission, absence, certify, abandonment, settled, returned, closes, fated, finalization, forget, terminal, stamp, prune, bundle, item_call, closed, close_words, step, run}

-- What a prune takes: the transactions that fall, and the shards whose departures it drops.
pub record Taking : Type 0 where
  pub is_fallen : ℕ → Bool
  pub is_dropped : ℕ → Bool

abbrev pub nothing : Taking
nothing = record { is_fallen = λ t. false; is_dropped = λ s. false }

unfoldable pub dropped : ℕ → Plain → List Departure
dropped now p = keep (λ d. not (remains p.local (survivors now p) d)) p.departures

abbrev pub taken_at : ℕ → Plain → Taking
taken_at now p = record { is_fallen = λ t. has transaction_of t (fallen now p); is_dropped = λ s. has shard_of s (dropped now p) }

-- what a ledger on which the prune was not made still has of that, and the ledger less that
abbrev pub fallen_in : Taking → Plain → List Entry
fallen_in k p = keep (λ e. k.is_fallen (transaction_of e)) p.entries

abbrev pub dropped_in : Taking → Plain → List Departure
dropped_in k p = keep (λ d. k.is_dropped (shard_of d)) p.departures

abbrev pub less : Taking → Plain → Plain
less k p =
    with_departures (keep (λ d. not (k.is_dropped (shard_of d))) p.departures)
    (with_entries (keep (λ e. not (k.is_fallen (transaction_of e))) p.entries) p)

-- What of the ledger a call touches: the transactions that it names, the entries that it takes in, by the local shard, if they are not
-- owed; the shards of whose departure it is, and the departures that it files; whether it lists what it lets go; at which clock it prunes.
pub record Touch : Type 0 where
  pub names : List ℕ
  pub takes : ℕ → List Entry
  pub shards : List ℕ
  pub files : List Departure
  pub lists : Bool
  pub prunes : List ℕ

abbrev naming : List ℕ → Touch
naming ts = record { names = ts; takes = λ local. []; shards = []; files = []; lists = false; prunes = [] }

abbrev bringing : List ℕ → (ℕ → List Entry) → List ℕ → Touch
bringing ts es ss = record { names = ts; takes = es; shards = ss; files = []; lists = false; prunes = [] }

abbrev filing : List Departure → Touch
filing ds = record { names = []; takes = λ local. []; shards = map shard_of ds; files = ds; lists = false; prunes = [] }

abbrev listing : Touch
listing = record { names = []; takes = λ local. []; shards = []; files = []; lists = true; prunes = [] }

abbrev pruning : ℕ → Touch
pruning now = record { names = []; takes = λ local. []; shards = []; files = []; lists = false; prunes = now ∷ [] }

-- A mark may be on a fallen entry and a stamp on a dropped departure: by a mark nothing stands or is reported, and by a stamp nothing
-- stands that did not. What a bundle touches, the calls of its items do.
abbrev pub touch : Call → Touch
touch (admission ws) = bringing ((admission_terms ws).transaction ∷ []) (λ local. admitted local ws ∷ []) []
touch (absence t shard key) = naming (t ∷ [])
touch (certify t code) = naming (t ∷ [])
touch (abandonment ws) =
    bringing (map (λ (g : Terms). g.transaction) (record_groups ws)) (λ local. map (rebuilt (record_shard ws)) (record_groups ws)) (record_shard ws ∷ [])
touch (settled r t) = naming []
touch (returned r t) = naming []
touch (closes room) = listing
touch (fated t) = naming (t ∷ [])
touch (finalization ws) = naming (map (λ (l : Line). l.transaction) (finalization_lines ws))
touch (forget t) = naming (t ∷ [])
touch (terminal shard cut is_stamped until) = filing (record { shard = shard; cut = cut; stamp = none } ∷ [])
touch (stamp shard until) = filing []
touch (prune now room) = pruning now
touch (bundle ws) = naming []

-- the calls without the prunes
abbrev pub is_prune : Call → Bool
is_prune c = filled (touch c).prunes

abbrev pub bare : List Call → List Call
bare cs = keep (λ c. not (is_prune c)) cs

-- The last prune that was left out: what it would have taken, and when.
pub record Omitted : Type 0 where
  pub taken : Taking
  pub clock : ℕ

abbrev pub none_yet : Omitted
none_yet = record { taken = nothing; clock = 0 }

-- a prune that is refused where the prunes are made is none
abbrev pub omitting : Call → List ℕ → Plain → Omitted → Omitted
omitting c [] p o = o
omitting c (now ∷ ts) p o = if_done (step c (less o.taken p)).refused (record { taken = taken_at now p; clock = now }) o

abbrev pub after : Call → Plain → Omitted → Omitted
after c p o = omitting c (touch c).prunes p o

-- refused for want of room: 6 entries, 8 departures, 9 the lent list
abbrev pub is_for_room : ℕ → Bool
is_for_room n = eqb n 6 || eqb n 8 || eqb n 9

-- the entry holds none of the dropped departures; the departure is held by none of the fallen entries
abbrev pub Clear : Taking → Plain → Entry → Type 0
Clear k p e = Every (λ d. holds p.local d e ≡ false) (dropped_in k p)

abbrev pub Unheld : Taking → Plain → Departure → Type 0
Unheld k p d = Every (λ e. holds p.local d e ≡ false) (fallen_in k p)

-- A call on the ledger p, on which no prune was made, stays apart from what the last one left out takes.
pub record Apart (o : Omitted) (c : Call) (p : Plain) : Type 0 where
  -- it names no fallen transaction
  pub named : Every (λ t. o.taken.is_fallen t ≡ false) (touch c).names
  -- an entry that it takes in holds no dropped departure
  pub clear : Every (λ e. owed (transaction_of e) p ≡ false → Clear o.taken p e) ((touch c).takes p.local)
  -- it is a record or a terminal of no dropped shard
  pub kept : Every (λ s. o.taken.is_dropped s ≡ false) (touch c).shards
  -- what it files, if the shard is not on file, no fallen entry holds
  pub unheld : Every (λ d. has shard_of (shard_of d) p.departures ≡ false → Unheld o.taken p d) (touch c).files
  -- it is not refused for want of room, unless it is a prune and so not made
  pub room : is_prune c ≡ false → is_for_room (step c p).refused ≡ false
  -- a prune is not before the last
  pub steady : Every (λ now. o.clock ≤ now) (touch c).prunes

-- the calls of which a call is made: a bundle of its items', any other of itself
abbrev pub calls_of : Call → List Call
calls_of (bundle ws) = map item_call (bundle_items ws)
calls_of c = c ∷ []

-- Of these each, on the ledger that the one before it leaves: what is released there may be taken in anew. Those behind one that is refused
-- are not made.
abbrev pub EachApart : Omitted → List Call → Plain → Type 0
EachApart o [] p = Unit {0}
EachApart o (c ∷ cs) p = Apart o c p × ((step c p).refused ≡ 0 → EachApart o cs (step c p).ledger)

-- each call of a list, on the ledger that those before it reach without the prunes; and the prune at u that comes last
abbrev pub AllApart : Omitted → ℕ → List Call → Plain → Type 0
AllApart o u [] p = o.clock ≤ u
AllApart o u (c ∷ cs) p = EachApart o (calls_of c) p × AllApart (after c p o) u cs (run (bare (c ∷ [])) p)

-- the same, computed
abbrev pub apart_tests : Omitted → Call → Plain → List Bool
apart_tests o c p =
    all (λ t. not (o.taken.is_fallen t)) (touch c).names
    ∷ all (λ e. owed (transaction_of e) p || all (λ d. not (holds p.local d e)) (dropped_in o.taken p)) ((touch c).takes p.local)
    ∷ all (λ s. not (o.taken.is_dropped s)) (touch c).shards
    ∷ all (λ d. has shard_of (shard_of d) p.departures || all (λ e. not (holds p.local d e)) (fallen_in o.taken p)) (touch c).files
    ∷ (is_prune c || not (is_for_room (step c p).refused))
    ∷ all (λ now. leb o.clock now) (touch c).prunes
    ∷ []

abbrev pub each_tests : Omitted → List Call → Plain → List (List Bool)
each_tests o [] p = []
each_tests o (c ∷ cs) p = apart_tests o c p ∷ if_done (step c p).refused (each_tests o cs (step c p).ledger) []

abbrev pub all_apart : Omitted → ℕ → List Call → Plain → Bool
all_apart o u [] p = leb o.clock u
all_apart o u (c ∷ cs) p = all (λ ts. all_of ts) (each_tests o (calls_of c) p) && all_apart (after c p o) u cs (run (bare (c ∷ [])) p)

-- What the calls of a list say, each its refusal, its answers and the words that it writes; the prunes made, but their reports told apart.
abbrev pub all_said : List Call → Plain → List (List ℕ)
all_said [] p = []
all_said (c ∷ cs) p = cons_if (not (is_prune c)) (said (step c p)) (all_said cs (step c p).ledger)

abbrev pub told_by : Call → Plain → List Report
told_by c p = concat_map (λ now. if_done (step c p).refused (reports now p) []) (touch c).prunes

abbrev pub all_told : List Call → Plain → List Report
all_told [] p = []
all_told (c ∷ cs) p = told_by c p ++ all_told cs (step c p).ledger

abbrev pub gone_by : Call → Plain → ℕ
gone_by c p = total (λ now. if_done (step c p).refused (length (fallen now p)) 0) (touch c).prunes

abbrev pub all_gone : List Call → Plain → ℕ
all_gone [] p = 0
all_gone (c ∷ cs) p = gone_by c p + all_gone cs (step c p).ledger

-- What they say with the prunes left out, of closes less the fallen: such a one may close where it was not pruned.
abbrev pub said_less : Taking → Call → Plain → List ℕ
said_less k c p =
    let es : List Entry = keep (λ e. not (k.is_fallen (transaction_of e))) (closed p) in
    cond (touch c).lists (if_done (step c p).refused (0 ∷ length es ∷ concat_map close_words es) (said (step c p))) (said (step c p))

abbrev pub all_said_less : Omitted → List Call → Plain → List (List ℕ)
all_said_less o [] p = []
all_said_less o (c ∷ cs) p =
    cons_if (not (is_prune c)) (said_less o.taken c p) (all_said_less (after c p o) cs (run (bare (c ∷ [])) p))

-- how many of the fallen close there
abbrev pub closed_fallen : Taking → Call → Plain → ℕ
closed_fallen k c p =
    cond (touch c).lists (if_done (step c p).refused (length (keep (λ e. k.is_fallen (transaction_of e)) (closed p))) 0) 0

abbrev pub all_closed_fallen : Omitted → List Call → Plain → ℕ
all_closed_fallen o [] p = 0
all_closed_fallen o (c ∷ cs) p = closed_fallen o.taken c p + all_closed_fallen (after c p o) cs (run (bare (c ∷ [])) p)

-- The prunes among the calls cs on p, left out, do not show: the other calls say the same; a prune at u after them, for which there is
-- room where they were left out, has room where they were made, and leaves the same; and the reports of all prunes in transaction
-- order are those of that one. As many fall, but for those that close first where they were not pruned.
pub record Unseen (u : ℕ) (cs : List Call) (p : Plain) : Type 0 where
  pub said : all_said cs p ≡ all_said_less none_yet cs p
  pub room : (n : ℕ) → (step (prune u n) (run (bare cs) p)).refused ≡ 0 → (step (prune u n) (run cs p)).refused ≡ 0
  pub left : pruned u (run cs p) ≡ pruned u (run (bare cs) p)
  pub told : in_order (all_told cs p ++ reports u (run cs p)) ≡ reports u (run (bare cs) p)
  pub gone : all_gone cs p + length (fallen u (run cs p)) ≡ length (fallen u (run (bare cs) p)) + all_closed_fallen none_yet cs p

-- Two ledgers on which the same calls were made, with prunes of each one's own, are the same after a prune at u, and so are the reports.
pub record Alike (u : ℕ) (cs ds : List Call) (p : Plain) : Type 0 where
  pub left : pruned u (run cs p) ≡ pruned u (run ds p)
  pub told : in_order (all_told cs p ++ reports u (run cs p)) ≡ in_order (all_told ds p ++ reports u (run ds p))
