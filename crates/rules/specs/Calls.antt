-- The changing calls: making, the ten kinds of call on entries, terminal, stamp, prune and bundle. For each its line of the refusal
-- table, from the top, and what it does where nothing is refused. A list that is lent is known by its length alone.
use Rattle.std.specs.Prelude.{ℕ, ◌+◌, ◌-◌, min, Bool, true, false, cond, not, ◌&&◌, ◌||◌, List, [], ◌∷◌, ◌++◌, map, eqb, ltb, leb, length}
use Rattle.std.proofs.Math.Option.{Option, none, some}
use Rattle.lists.specs.Lists.{keep, all_of, has, include, without, change, through, tally, total, self, concat_map, set_of}
use Rattle.rules.specs.Numbers.{is_time, is_shard, is_span, max_entries, max_absences, max_departures, max_counts, max_count}
use Rattle.rules.specs.Plain.{Terms, Absence, Entry, Departure, Count, Plain, is_leg, transaction_of, shard_of, counted_shard, empty, with_entries, with_departures, with_counts, owed, entry_of}
use Rattle.rules.specs.Words.{word, transaction_size, transaction_at, transaction_words, admission_terms, admission_formed, admission_timed, admission_placed, record_shard, record_groups, record_formed, record_timed, finalization_lines, deciding, finalization_formed, Item, is_kind, bundle_whole, bundle_known, bundle_measured, bundle_items}
use Rattle.rules.specs.Entries.{admitted, is_read, read_absent, certified, marked, is_closed, closing_decision, with_groups, rebuilt_by, with_lines, released_by}
use Rattle.rules.specs.Prune.{report_words, fallen, reports, pruned}
use Rattle.rules.specs.Outcome.{Outcome, done, unless, if_done, ◌gives◌then◌, too_short, yes_no}

-- Making a ledger. A refused making hands back the empty ledger of local 1 with spans of 1.
abbrev pub not_made : Plain
not_made = empty 1 1 1 1

abbrev pub making_refusal : ℕ → ℕ → ℕ → ℕ → ℕ
making_refusal local v c l =
    not (is_shard local) gives 1 then
    not (all_of (is_span v ∷ is_span c ∷ is_span l ∷ [])) gives 2 then 0

unfoldable pub making : ℕ → ℕ → ℕ → ℕ → Outcome
making local v c l = unless (making_refusal local v c l) not_made (done [] (empty local v c l))

-- Taking in entries, 6: distinct transactions not yet owed outnumber the free entries
abbrev pub unowed : List ℕ → Plain → List ℕ
unowed ts p = keep (λ t. not (owed t p)) (set_of ts)

abbrev pub no_room_for : List ℕ → Plain → Bool
no_room_for ts p = ltb (max_entries - length p.entries) (length (unowed ts p))

-- Admission: an owed transaction is skipped and answers 0, else 1
abbrev pub admission_refusal : List ℕ → Plain → ℕ
admission_refusal ws p =
    not (admission_formed ws) gives 5 then
    not (admission_timed ws) gives 3 then
    not (admission_placed ws) gives 4 then
    no_room_for ((admission_terms ws).transaction ∷ []) p gives 6 then 0

unfoldable pub after_admission : List ℕ → Plain → Outcome
after_admission ws p =
    unless (admission_refusal ws p) p
    (done (yes_no (not (owed (admission_terms ws).transaction p)) ∷ [])
    (with_entries (include transaction_of (admitted p.local ws) p.entries) p))

-- Absence: any pair of shard and key on any owed entry; answers whether new; an unknown transaction answers no.
-- 7: entry owed, pair new, 8 stand already
abbrev pub is_new : Absence → Option Entry → Bool
is_new a none = false
is_new a (some e) = not (is_read a e)

abbrev pub is_full : Option Entry → Bool
is_full none = false
is_full (some e) = leb max_absences (length e.absences)

abbrev pub absence_refusal : ℕ → Absence → Plain → ℕ
absence_refusal t a p =
    not (is_shard a.shard) gives 4 then
    (is_new a (entry_of t p) && is_full (entry_of t p)) gives 7 then 0

unfoldable pub after_absence : ℕ → Absence → Plain → Outcome
after_absence t a p =
    unless (absence_refusal t a p) p
    (done (yes_no (is_new a (entry_of t p)) ∷ []) (with_entries (change transaction_of t (read_absent a) p.entries) p))

-- Certify keeps the greater code; an unknown transaction changes nothing.
abbrev pub certify_refusal : ℕ → ℕ
certify_refusal code = ltb 2 code gives 5 then 0

unfoldable pub after_certify : ℕ → ℕ → Plain → Outcome
after_certify t code p =
    unless (certify_refusal code) p (done [] (with_entries (change transaction_of t (certified code) p.entries) p))

-- Abandonment record. What it rebuilds is counted with its shard: each count stops at 2^64 − 1. A record that rebuilds nothing opens none.
abbrev pub raised : ℕ → Count → Count
raised n c = record { shard = c.shard; rebuilt = min (c.rebuilt + n) max_count }

abbrev pub opened : ℕ → ℕ → Count
opened shard n = record { shard = shard; rebuilt = min n max_count }

abbrev pub counted : ℕ → ℕ → List Count → List Count
counted shard n cs =
    cond (eqb n 0) cs
    (cond (has counted_shard shard cs)
    (change counted_shard shard (raised n) cs)
    (include counted_shard (opened shard n) cs))

-- 14: an entry would be rebuilt, the shard has no count yet, 32 stand
abbrev pub no_count_for : ℕ → ℕ → List Count → Bool
no_count_for shard n cs = ltb 0 n && (not (has counted_shard shard cs) && leb max_counts (length cs))

-- how many entries the record rebuilds
abbrev pub rebuilds : List ℕ → Plain → ℕ
rebuilds ws p = rebuilt_by (record_shard ws) (record_groups ws) p.entries

abbrev pub abandonment_refusal : List ℕ → Plain → ℕ
abandonment_refusal ws p =
    not (record_formed ws) gives 5 then
    not (record_timed ws) gives 3 then
    not (is_shard (record_shard ws)) gives 4 then
    no_room_for (map (λ (g : Terms). g.transaction) (record_groups ws)) p gives 6 then
    no_count_for (record_shard ws) (rebuilds ws p) p.counts gives 14 then 0

unfoldable pub after_abandonment : List ℕ → Plain → Outcome
after_abandonment ws p =
    unless (abandonment_refusal ws p) p
    (done (rebuilds ws p ∷ [])
    (with_counts (counted (record_shard ws) (rebuilds ws p) p.counts)
    (with_entries (with_groups (record_shard ws) (record_groups ws) p.entries) p)))

-- Settled and returned
unfoldable pub after_mark : ℕ → ℕ → Bool → Plain → Outcome
after_mark r t is_return p =
    done [] (with_entries (change transaction_of t (marked p.local r is_return) p.entries) p)

-- Closes: released and listed by transaction, each with its decision code
abbrev pub closed : Plain → List Entry
closed p = keep (is_closed p.local) p.entries

abbrev pub close_words : Entry → List ℕ
close_words e = transaction_words (transaction_of e) ++ (closing_decision e ∷ [])

abbrev pub closes_refusal : ℕ → Plain → ℕ
closes_refusal room p = too_short room (concat_map close_words (closed p)) gives 9 then 0

unfoldable pub after_closes : ℕ → Plain → Outcome
after_closes room p =
    unless (closes_refusal room p) p
    (record {
      refused = 0;
      answers = length (closed p) ∷ [];
      ledger = with_entries (keep (λ e. not (is_closed p.local e)) p.entries) p;
      words = concat_map close_words (closed p);
    })

-- Fated: a leg is released and answers Aborted (2); all else answers none (0) and stays
abbrev pub is_fated : Option Entry → Bool
is_fated none = false
is_fated (some e) = is_leg e.part

unfoldable pub after_fated : ℕ → Plain → Outcome
after_fated t p =
    cond (is_fated (entry_of t p))
    (done (2 ∷ []) (with_entries (without transaction_of t p.entries) p))
    (done (0 ∷ []) p)

-- Finalization answers how many were released.
abbrev pub finalization_refusal : List ℕ → ℕ
finalization_refusal ws = not (finalization_formed ws) gives 5 then 0

unfoldable pub after_finalization : List ℕ → Plain → Outcome
after_finalization ws p =
    unless (finalization_refusal ws) p
    (done (released_by p.local (deciding ws) (finalization_lines ws) p.entries ∷ [])
    (with_entries (with_lines p.local (deciding ws) (finalization_lines ws) p.entries) p))

-- Forget releases and answers whether it was owed.
unfoldable pub after_forget : ℕ → Plain → Outcome
after_forget t p = done (yes_no (owed t p) ∷ []) (with_entries (without transaction_of t p.entries) p)

-- Terminal and stamp: the first cut of a shard holds and so does its first stamp.
abbrev pub first_stamp : ℕ → Option ℕ → Option ℕ
first_stamp until none = some until
first_stamp until (some u) = some u

abbrev pub stamped : ℕ → Departure → Departure
stamped until d = record { shard = d.shard; cut = d.cut; stamp = first_stamp until d.stamp }

abbrev pub departed : ℕ → ℕ → List Departure → List Departure
departed shard cut ds = include shard_of (record { shard = shard; cut = cut; stamp = none }) ds

-- until is unread when stamped is 0. 8: shard new, 32 stand already
abbrev pub terminal_refusal : ℕ → ℕ → ℕ → ℕ → Plain → ℕ
terminal_refusal shard cut is_stamped until p =
    ltb 1 is_stamped gives 5 then
    not (is_time cut && (eqb is_stamped 0 || is_time until)) gives 3 then
    not (is_shard shard) gives 4 then
    (not (has shard_of shard p.departures) && leb max_departures (length p.departures)) gives 8 then 0

unfoldable pub after_terminal : ℕ → ℕ → ℕ → ℕ → Plain → Outcome
after_terminal shard cut is_stamped until p =
    let ds : List Departure = departed shard cut p.departures in
    unless (terminal_refusal shard cut is_stamped until p) p
    (done [] (with_departures (cond (eqb is_stamped 0) ds (change shard_of shard (stamped until) ds)) p))

abbrev pub stamp_refusal : ℕ → ℕ → ℕ
stamp_refusal shard until = not (is_time until) gives 3 then not (is_shard shard) gives 4 then 0

-- a stamp on an unknown shard is nothing
unfoldable pub after_stamp : ℕ → ℕ → Plain → Outcome
after_stamp shard until p =
    unless (stamp_refusal shard until) p
    (done [] (with_departures (change shard_of shard (stamped until) p.departures) p))

-- Prune lists its reports, and answers how many it wrote and how many fell.
abbrev pub prune_refusal : ℕ → ℕ → Plain → ℕ
prune_refusal now room p =
    not (is_time now) gives 3 then
    too_short room (concat_map report_words (reports now p)) gives 9 then 0

unfoldable pub after_prune : ℕ → ℕ → Plain → Outcome
after_prune now room p =
    unless (prune_refusal now room p) p
    (record {
      refused = 0;
      answers = length (reports now p) ∷ length (fallen now p) ∷ [];
      ledger = pruned now p;
      words = concat_map report_words (reports now p);
    })

-- Bundle: items of five kinds, done one after the other; the first that is refused refuses the bundle. An item's words are its call's; a
-- terminal or an absence of another length is refused by 5, ahead of all else.
abbrev pub item_refused : ℕ → Plain → Outcome
item_refused n p = unless n p (done [] p)

abbrev pub terminal_item : List ℕ → Plain → Outcome
terminal_item ws p =
    cond (eqb (length ws) 4) (after_terminal (word 0 ws) (word 1 ws) (word 2 ws) (word 3 ws) p) (item_refused 5 p)

abbrev pub absence_item : List ℕ → Plain → Outcome
absence_item ws p =
    let a : Absence = record { shard = word transaction_size ws; key = word (transaction_size + 1) ws } in
    cond (eqb (length ws) (transaction_size + 2)) (after_absence (transaction_at 0 ws) a p) (item_refused 5 p)

abbrev pub after_item : Item → Plain → Outcome
after_item i p =
    cond (is_kind 1 i) (terminal_item i.words p)
    (cond (is_kind 2 i) (after_abandonment i.words p)
    (cond (is_kind 3 i) (after_finalization i.words p)
    (cond (is_kind 4 i) (after_admission i.words p)
    (absence_item i.words p))))

abbrev pub with_item : Item → Plain → Plain
with_item i p = (after_item i p).ledger

abbrev pub items_refusal : List Item → Plain → ℕ
items_refusal [] p = 0
items_refusal (i ∷ is) p = if_done (after_item i p).refused (items_refusal is (with_item i p)) (after_item i p).refused

-- what the items of a kind answer, in all
abbrev pub answered_by : ℕ → List Item → Plain → ℕ
answered_by k is p = tally with_item (λ i q. cond (is_kind k i) (total self (after_item i q).answers) 0) is p

-- 11 and 10 before any item, and 10 first where at most 64 items are named and both arrays stand whole
abbrev pub bundle_refusal : List ℕ → Plain → ℕ
bundle_refusal ws p =
    not (bundle_whole ws) gives 11 then
    not (bundle_known ws) gives 10 then
    not (bundle_measured ws) gives 11 then
    items_refusal (bundle_items ws) p

-- admissions that answered 1, entries rebuilt, entries released
unfoldable pub after_bundle : List ℕ → Plain → Outcome
after_bundle ws p =
    let is : List Item = bundle_items ws in
    unless (bundle_refusal ws p) p
    (done (answered_by 4 is p ∷ answered_by 2 is p ∷ answered_by 3 is p ∷ []) (through with_item is p))

-- A changing call with its arguments and the length of its lent list.
pub data Call : Type 0 where
  admission : (words : List ℕ) → Call
  absence : (transaction shard key : ℕ) → Call
  certify : (transaction code : ℕ) → Call
  abandonment : (words : List ℕ) → Call
  settled : (record_key transaction : ℕ) → Call
  returned : (record_key transaction : ℕ) → Call
  closes : (room : ℕ) → Call
  fated : (transaction : ℕ) → Call
  finalization : (words : List ℕ) → Call
  forget : (transaction : ℕ) → Call
  terminal : (shard cut stamped until : ℕ) → Call
  stamp : (shard until : ℕ) → Call
  prune : (now room : ℕ) → Call
  bundle : (words : List ℕ) → Call

abbrev pub step : Call → Plain → Outcome
step (admission ws) p = after_admission ws p
step (absence t shard key) p = after_absence t (record { shard = shard; key = key }) p
step (certify t code) p = after_certify t code p
step (abandonment ws) p = after_abandonment ws p
step (settled r t) p = after_mark r t false p
step (returned r t) p = after_mark r t true p
step (closes room) p = after_closes room p
step (fated t) p = after_fated t p
step (finalization ws) p = after_finalization ws p
step (forget t) p = after_forget t p
step (terminal shard cut is_stamped until) p = after_terminal shard cut is_stamped until p
step (stamp shard until) p = after_stamp shard until p
step (prune now room) p = after_prune now room p
step (bundle ws) p = after_bundle ws p

-- the plain ledger after a list of calls
abbrev pub run : List Call → Plain → Plain
run [] p = p
run (c ∷ cs) p = run cs (step c p).ledger

-- The call that an item is; one of a wrong length is a call that is refused by 5, whatever the ledger, and names nothing.
abbrev pub refused_call : Call
refused_call = finalization []

abbrev pub item_call : Item → Call
item_call i =
    let ws : List ℕ = i.words in
    cond (is_kind 1 i) (cond (eqb (length ws) 4) (terminal (word 0 ws) (word 1 ws) (word 2 ws) (word 3 ws)) refused_call)
    (cond (is_kind 2 i) (abandonment ws)
    (cond (is_kind 3 i) (finalization ws)
    (cond (is_kind 4 i) (admission ws)
    (cond (eqb (length ws) (transaction_size + 2)) (absence (transaction_at 0 ws) (word transaction_size ws) (word (transaction_size + 1) ws)) refused_call))))
