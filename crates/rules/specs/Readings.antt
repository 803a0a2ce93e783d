-- Paper, 'Readings': every list and lookup, with its line of the refusal table. None changes the ledger.
use Rattle.std.specs.Prelude.{ℕ, ◌+◌, min, Bool, true, false, cond, not, ◌&&◌, ◌||◌, List, [], ◌∷◌, ◌++◌, map, eqb, ltb, leb, length}
use Rattle.std.proofs.Math.Option.{Option, none, some}
use Rattle.lists.specs.Lists.{keep, any, filled, total, concat_map, set_of}
use Rattle.rules.specs.Numbers.{is_time, is_shard, record_key, cell_key, shard_for_route, max_depth, max_count}
use Rattle.rules.specs.Plain.{Edge, Entry, Count, Plain, is_core, is_settling, transaction_of, shard_of, owed, entry_of, edges_from, is_named, is_covered, remote}
use Rattle.rules.specs.Words.{transaction_words}
use Rattle.rules.specs.Index.{index, names}
use Rattle.rules.specs.Over.{over}
use Rattle.rules.specs.Prune.{validity_horizon}
use Rattle.rules.specs.Tree.{tree_refusal, tree_of, leaves, leaf_of}
use Rattle.rules.specs.Snapshot.{count_words, snapshot_words}
use Rattle.rules.specs.Outcome.{Outcome, done, unless, ◌gives◌then◌, too_short, yes_no}

-- A list answers how many items it wrote; 9 comes after every other refusal.
abbrev pub listing : {A : Type 0} → ℕ → ℕ → (A → List ℕ) → List A → Plain → Outcome
listing refusal room words items p =
    let written : List ℕ = concat_map words items in
    unless (ltb 0 refusal gives refusal then too_short room written gives 9 then 0) p
    (record { refused = 0; answers = length items ∷ []; ledger = p; words = written })

-- a shard or a route as the one word of an item
abbrev pub single : ℕ → List ℕ
single n = n ∷ []

-- an answer no for a transaction not owed; a list for one is empty
abbrev pub of_entry : (Entry → Bool) → Option Entry → Bool
of_entry q none = false
of_entry q (some e) = q e

abbrev pub list_of : {A : Type 0} → (Entry → List A) → Option Entry → List A
list_of f none = []
list_of f (some e) = f e

-- Questions: each core shard but local of each uncovered core entry, rising, with its cell key.
pub record Question : Type 0 where
  pub transaction : ℕ
  pub shard : ℕ
  pub key : ℕ
  pub at : ℕ
  pub end : ℕ

abbrev pub ask : Entry → ℕ → Question
ask e shard =
    record {
      transaction = transaction_of e;
      shard = shard;
      key = cell_key (transaction_of e) e.terms.end shard;
      at = e.terms.at;
      end = e.terms.end;
    }

abbrev pub questions_of : ℕ → Entry → List Question
questions_of local e =
    cond (is_core e.part && not (is_covered e)) (map (ask e) (keep (λ s. not (eqb s local)) e.terms.core_shards)) []

unfoldable pub questions : Plain → List Question
questions p = concat_map (questions_of p.local) p.entries

abbrev pub question_words : Question → List ℕ
question_words q = transaction_words q.transaction ++ (q.shard ∷ q.key ∷ q.at ∷ q.end ∷ [])

-- A question is open once its at has passed.
abbrev pub passed : ℕ → ℕ → Bool
passed at now = leb at now

-- the Core window [at, at + C)
abbrev pub in_core_window : Plain → ℕ → ℕ → Bool
in_core_window p at now = leb at now && ltb now (at + p.core_span)

-- It answers when absent (code 0; 1 is present), read in its own Core window and owed.
abbrev pub is_answered : Question → ℕ → ℕ → Plain → Bool
is_answered q read_at inclusion p = eqb inclusion 0 && in_core_window p q.at read_at && owed q.transaction p

abbrev pub question_refusal : Question → ℕ → ℕ
question_refusal q now =
    not (is_time q.at && is_time q.end && is_time now) gives 3 then not (is_shard q.shard) gives 4 then 0

-- Past deadline: not leg or remainder, now ≥ at, and covered or certificate below 2 or now < at + V.
abbrev pub is_past_deadline : Plain → ℕ → Entry → Bool
is_past_deadline p now e =
    not (is_settling e.part)
    && leb e.terms.at now
    && (is_covered e || ltb e.certificate 2 || ltb now (validity_horizon p e))

unfoldable pub past_deadline : ℕ → Plain → List Entry
past_deadline now p = keep (is_past_deadline p now) p.entries

abbrev pub term_words : Entry → List ℕ
term_words e =
    transaction_words (transaction_of e) ++ (e.terms.at ∷ e.terms.end ∷ e.terms.anchor ∷ e.terms.charge ∷ [])

-- Issuers of an id: those the index names under its key whose edges from local hold that very id.
abbrev pub is_issuer : Plain → ℕ → Entry → Bool
is_issuer p id e =
    names (index p) (record_key id) (transaction_of e) && any (λ g. eqb g.id id) (edges_from p.local e.terms)

unfoldable pub issuers_of : ℕ → Plain → List Entry
issuers_of id p = keep (is_issuer p id) p.entries

abbrev pub issuer_words : Entry → List ℕ
issuer_words e = transaction_words (transaction_of e) ++ (e.terms.end ∷ [])

-- Claimants: destinations of the entry's edges from local with that key, rising, each once.
abbrev pub claimants_of : ℕ → ℕ → Entry → List ℕ
claimants_of local r e =
    set_of (concat_map (λ (g : Edge). g.to) (keep (λ g. eqb (record_key g.id) r) (edges_from local e.terms)))

unfoldable pub claimants : ℕ → ℕ → Plain → List ℕ
claimants t r p = list_of (claimants_of p.local r) (entry_of t p)

-- Counterparts: for each remote route the trie's shard and every shard with a departure over it. The trie is of a uniform depth or a tree.
abbrev pub counterparts_of : (shard_for : ℕ → ℕ) → Plain → Entry → List ℕ
counterparts_of shard_for p e =
    set_of
    (concat_map (λ (r : ℕ). shard_for r ∷ map shard_of (keep (over e r) p.departures)) (remote p.local e.terms))

unfoldable pub counterparts : (shard_for : ℕ → ℕ) → ℕ → Plain → List ℕ
counterparts shard_for t p = list_of (counterparts_of shard_for p) (entry_of t p)

abbrev pub depth_refusal : ℕ → ℕ
depth_refusal d = ltb max_depth d gives 5 then 0

abbrev pub clock_refusal : ℕ → ℕ
clock_refusal now = not (is_time now) gives 3 then 0

abbrev pub is_unstamped : Option ℕ → Bool
is_unstamped none = true
is_unstamped (some until) = false

unfoldable pub unstamped_departures : Plain → List ℕ
unstamped_departures p = map shard_of (keep (λ d. is_unstamped d.stamp) p.departures)

-- Reach: the routes as taken in.
abbrev pub reach_of : ℕ → Plain → List ℕ
reach_of t p = list_of (λ e. e.terms.routes) (entry_of t p)

-- Abandonment answers: yes for core, certificate below 2, no record.
abbrev pub abandonment_answers : Entry → Bool
abandonment_answers e = is_core e.part && ltb e.certificate 2 && not (is_named e)

abbrev pub is_executed : Entry → Bool
is_executed e = eqb e.certificate 2

-- Rebuilt: the sum of the counts, which stops where each of them does.
abbrev pub rebuilt_in : List Count → ℕ
rebuilt_in cs = min (total (λ (c : Count). c.rebuilt) cs) max_count

-- a lookup of an entry
abbrev pub lookup : (Entry → Bool) → ℕ → Plain → Outcome
lookup q t p = done (yes_no (of_entry q (entry_of t p)) ∷ []) p

-- A reading with its arguments and the length of its lent list.
pub data Reading : Type 0 where
  ask_questions : (room : ℕ) → Reading
  open_at : (transaction shard key at end now : ℕ) → Reading
  answers : (transaction shard key at end read_at inclusion : ℕ) → Reading
  list_past_deadline : (now room : ℕ) → Reading
  list_issuers : (id room : ℕ) → Reading
  list_claimants : (transaction record_key room : ℕ) → Reading
  list_counterparts : (transaction depth room : ℕ) → Reading
  list_unstamped : (room : ℕ) → Reading
  reach : (transaction room : ℕ) → Reading
  abandonment covered departed executed reaches_beyond : (transaction : ℕ) → Reading
  issued_by : (record_key transaction : ℕ) → Reading
  local rebuilt : Reading
  take_snapshot : (room : ℕ) → Reading
  rebuilt_by_shard : (room : ℕ) → Reading
  leaf_for_route : (route : ℕ) (marks : List ℕ) → Reading
  list_leaves : (marks : List ℕ) (room : ℕ) → Reading
  list_counterparts_by_tree : (transaction : ℕ) (marks : List ℕ) (room : ℕ) → Reading

abbrev pub question : ℕ → ℕ → ℕ → ℕ → ℕ → Question
question t shard key at end = record { transaction = t; shard = shard; key = key; at = at; end = end }

abbrev pub read : Reading → Plain → Outcome
read (ask_questions room) p = listing 0 room question_words (questions p) p
read (open_at t shard key at end now) p =
    unless (question_refusal (question t shard key at end) now) p (done (yes_no (passed at now) ∷ []) p)
read (answers t shard key at end read_at inclusion) p =
    unless (ltb 1 inclusion gives 5 then question_refusal (question t shard key at end) read_at) p
    (done (yes_no (is_answered (question t shard key at end) read_at inclusion p) ∷ []) p)
read (list_past_deadline now room) p = listing (clock_refusal now) room term_words (past_deadline now p) p
read (list_issuers id room) p = listing 0 room issuer_words (issuers_of id p) p
read (list_claimants t r room) p = listing 0 room single (claimants t r p) p
read (list_counterparts t d room) p = listing (depth_refusal d) room single (counterparts (shard_for_route d) t p) p
read (list_unstamped room) p = listing 0 room single (unstamped_departures p) p
read (reach t room) p = listing 0 room single (reach_of t p) p
read (abandonment t) p = lookup abandonment_answers t p
read (covered t) p = lookup is_covered t p
read (departed t) p = lookup is_named t p
read (executed t) p = lookup is_executed t p
read (reaches_beyond t) p = lookup (λ e. filled (remote p.local e.terms)) t p
read (issued_by r t) p = done (yes_no (names (index p) r t) ∷ []) p
read local p = done (p.local ∷ []) p
read rebuilt p = done (rebuilt_in p.counts ∷ []) p
read (take_snapshot room) p = listing 0 room single (snapshot_words p) p
read (rebuilt_by_shard room) p = listing 0 room count_words p.counts p
read (leaf_for_route route marks) p = unless (tree_refusal marks) p (done (leaf_of (tree_of marks) route ∷ []) p)
read (list_leaves marks room) p = listing (tree_refusal marks) room single (leaves (tree_of marks)) p
read (list_counterparts_by_tree t marks room) p =
    listing (tree_refusal marks) room single (counterparts (leaf_of (tree_of marks)) t p) p
