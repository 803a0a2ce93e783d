-- Lists by transaction: the entry that a loop over the roster meets, what is left behind it, and what the lists' tests are of each entry.
-- Assumes nothing.
use Prim.Native.Nat.{ℕ, suc, ◌+◌, ◌-◌, ◌*◌, ◌≤◌}
use mathlib.Core.Path.{◌≡◌, refl, sym, ap, ◌∙◌}
use mathlib.Core.Bool.{Bool, true, false, not, ◌&&◌, ◌||◌, false≢true}
use mathlib.Core.List.{List, [], ◌∷◌, ◌++◌, Memᴰ}
use native.Mathlib.Omega.{arith}
use borrow.Author.Tests.{eq-eqb, ne_eqb, eqb-true}
use lib.Dec.{eqb}
use lib.ListN.{length, take, length-map, length-append}
use lib.Seq.{length-take-le}
use Rattle.lists.specs.Lists.{cons_if, keep, concat_map, has, without, Above, Ascending, self}
use Rattle.lists.proofs.Tests.{and_both, and_left, and_right, same_test}
use Rattle.lists.proofs.Keep.{keep_same, any-has, any_more, length-keep}
use Rattle.lists.proofs.Picked.{any-kept, any_picked}
use Rattle.lists.proofs.Order.{above_weak}
use Rattle.rules.specs.Plain as plain
use Rattle.rules.specs.Numbers.{record_key}
use Rattle.rules.specs.Plain.{Plain, transaction_of, issues, is_core, is_covered}
use Rattle.rules.specs.Index.{index, names}
use Rattle.rules.specs.Good.{Good, GoodEntry, GoodPart}
use Rattle.rules.specs.Readings.{is_issuer, issuers_of, ask, questions_of}
use Rattle.rules.proofs.Named.{index-names}
use Rattle.entry.specs.declared.Entry.{Entry}
use Rattle.entry.specs.Entry.{plain_entry}
use Rattle.entry.proofs.Shape.{fits_of}
use Rattle.entry.proofs.Edges.{starting}
use Rattle.entry_lists.specs.Tests.{holds_id, is_asking, asks_of}

-- An entry whose edges from local hold an id is in the index under the id's key.
abbrev key_of : plain.Edge → ℕ
key_of g = record_key g.id

issues-key : (local id : ℕ) (e : plain.Entry) → holds_id local id e ≡ true → issues local (record_key id) e.terms ≡ true
issues-key local id e h =
    any_picked (starting local) key_of (λ k. eqb k (record_key id)) e.terms.edges
    ∙ any_more _ _ (λ g t. step g (eqb g.from local) t) e.terms.edges (sym (any-kept (λ (g : plain.Edge). eqb g.id id) (starting local) e.terms.edges) ∙ h)
  where
    step : (g : plain.Edge) (b : Bool) → b && eqb g.id id ≡ true → b && eqb (record_key g.id) (record_key id) ≡ true
    step g true t = eq-eqb (record_key g.id) (record_key id) (ap record_key (eqb-true g.id id t))
    step g false t = t

issuer_holds : (p : Plain) → Good p → (id : ℕ) (e : plain.Entry) → Memᴰ e p.entries → is_issuer p id e ≡ holds_id p.local id e
issuer_holds p g id e m =
    same_test (is_issuer p id e) (holds_id p.local id e)
    (λ t. and_right (names (index p) (record_key id) (transaction_of e)) (holds_id p.local id e) t)
    (λ t. and_both (names (index p) (record_key id) (transaction_of e)) (holds_id p.local id e)
    (index-names p g (record_key id) (transaction_of e)
    ∙ any-has _ m (and_both (eqb (transaction_of e) (transaction_of e)) (issues p.local (record_key id) e.terms) (eq-eqb (transaction_of e) (transaction_of e) refl) (issues-key p.local id e t)))
    t)

pub issuers_hold : (p : Plain) → Good p → (id : ℕ) → issuers_of id p ≡ keep (holds_id p.local id) p.entries
unfolding issuers_of
issuers_hold p g id = keep_same (is_issuer p id) (holds_id p.local id) p.entries (λ e m. issuer_holds p g id e m)

-- One less without a number of a rising list.
above_kept : (x : ℕ) (l : List ℕ) → Above self x l → length (without self x l) ≡ length l
above_kept x [] a = refl
above_kept x (y ∷ l) a = rw (ne_eqb y x (omega (arith, a.0))) (ap suc (above_kept x l a.1))

one_less : (x : ℕ) (l : List ℕ) → Ascending self l → has self x l ≡ true → length (without self x l) + 1 ≡ length l
one_less x [] a h = absurd (false≢true h)
one_less x (y ∷ l) a h = go (eqb y x) refl h (one_less x l a.1)
  where
    go : (b : Bool) → eqb y x ≡ b → b || has self x l ≡ true → (has self x l ≡ true → length (without self x l) + 1 ≡ length l) →
        length (cons_if (not b) y (without self x l)) + 1 ≡ suc (length l)
    go true u q ih = omega (arith, above_kept x l (above_weak self x y l (omega (arith, eqb-true y x u)) a.0))
    go false u q ih = omega (arith, ih q)

core-has : (q : plain.Part) (local : ℕ) (t : plain.Terms) (marks : List ℕ) (b : Bool) → is_core q ≡ true → GoodPart q local t marks b →
    has self local t.core_shards ≡ true
core-has plain.core local t marks b h g = g.0
core-has plain.whole local t marks b h g = absurd (false≢true h)
core-has plain.leg local t marks b h g = absurd (false≢true h)
core-has plain.remainder local t marks b h g = absurd (false≢true h)

-- An entry that asks does so of each core shard but local, which is one of them.
pub asks_count : (local : ℕ) (e : Entry) → GoodEntry local (plain_entry e) → is_asking (plain_entry e) ≡ true →
    length (asks_of local (plain_entry e)) + 1 ≡ e.core_len
unfolding plain_entry
asks_count local e g h =
    let f = fits_of e in
    let p = plain_entry e in
    let cores = take e.core_len e.core in
    let known = core-has p.part local p.terms p.marks p.returned (and_left (is_core p.part) (not (is_covered p)) h) g.part in
    omega (
      arith,
      length-map (keep (λ (s : ℕ). not (eqb s local)) cores) (ask p),
      one_less local cores g.terms.rising known,
      length-take-le e.core_len e.core (omega (arith, f.core_len, f.core)),
    )

-- The questions of an entry: none, or one for each core shard but local.
pub asks_few : (local : ℕ) (e : Entry) → length (asks_of local (plain_entry e)) ≤ 8
unfolding plain_entry
asks_few local e =
    let f = fits_of e in
    let cores = take e.core_len e.core in
    omega (arith, f.core_len, length-map (keep (λ (s : ℕ). not (eqb s local)) cores) (ask (plain_entry e)), length-keep (λ (s : ℕ). not (eqb s local)) cores, length-take-le e.core_len e.core (omega (arith, f.core_len, f.core)))

pub next_asks : (local : ℕ) (x : plain.Entry) (l m : List plain.Entry) → l ≡ x ∷ m → is_asking x ≡ true →
    concat_map (questions_of local) l ≡ asks_of local x ++ concat_map (questions_of local) m
next_asks local x l m e h = rw (e, h)

pub asks_room : (local count all size : ℕ) (x : plain.Entry) (l m : List plain.Entry) → l ≡ x ∷ m → is_asking x ≡ true →
    count + length (concat_map (questions_of local) l) ≡ all → 5 * all ≤ size → 5 * (count + length (asks_of local x)) ≤ size
asks_room local count all size x l m e h q b =
    omega (arith, ap length (next_asks local x l m e h), length-append (asks_of local x) (concat_map (questions_of local) m))

pub next_silent : (local : ℕ) (x : plain.Entry) (l m : List plain.Entry) → l ≡ x ∷ m → is_asking x ≡ false →
    concat_map (questions_of local) l ≡ concat_map (questions_of local) m
next_silent local x l m e h = rw (e, h)

pub asks_none : (local : ℕ) (x : plain.Entry) → is_asking x ≡ false → length (questions_of local x) ≡ 0
asks_none local x h = rw h

pub asks_some : (local : ℕ) (e : Entry) → GoodEntry local (plain_entry e) → is_asking (plain_entry e) ≡ true → 1 ≤ e.core_len
asks_some local e g h = omega (arith, asks_count local e g h)

pub asks_all : (local : ℕ) (e : Entry) → GoodEntry local (plain_entry e) → is_asking (plain_entry e) ≡ true →
    (e.core_len - 1 ≡ length (questions_of local (plain_entry e))) × (e.core_len - 1 ≤ 8)
asks_all local e g h =
    let all : length (questions_of local (plain_entry e)) ≡ length (asks_of local (plain_entry e)) = rw h in
    (omega (arith, asks_count local e g h, all), omega (arith, (fits_of e).core_len))

pub asks_next : (local : ℕ) (x : plain.Entry) (l m : List plain.Entry) → l ≡ x ∷ m →
    length (concat_map (questions_of local) l) ≡ length (questions_of local x) + length (concat_map (questions_of local) m)
asks_next local x l m e = ap (λ n. length (concat_map (questions_of local) n)) e ∙ length-append (questions_of local x) (concat_map (questions_of local) m)

-- so many counted, and those still to come
pub counted : (count r all whole rest n : ℕ) → r ≡ n → whole ≡ n + rest → count + whole ≡ all → count + r + rest ≡ all
counted count r all whole rest n e q s = omega arith
