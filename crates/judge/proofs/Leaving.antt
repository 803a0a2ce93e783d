-- What a step leaves of the departures that a view shows: one more place put down or passed by, the smallest cut with the first so far beside, and
-- what all that is left answers.
-- Assumes nothing.
use Prim.Native.Nat.{ℕ, ◌+◌, ◌-◌, ◌≤◌, ◌<◌}
use mathlib.Core.Path.{◌≡◌, refl, sym, ap, subst, ◌∙◌}
use mathlib.Core.Bool.{Bool, true, false, true≢false}
use mathlib.Core.List.{List, [], ◌∷◌, ◌++◌, map, map-append, nil≢cons, cons≢nil}
use mathlib.Core.Logic.{⊎_elim}
use mathlib.Core.Option.{Option, none, some}
use native.Mathlib.Omega.{arith}
use lib.ListN.{length, drop, get_or, get_or-map, length-map}
use Rattle.std.specs.Prelude.{Contains, option_to_list}
use Rattle.std.specs.Prelude as found
use Rattle.std.proofs.lemmas.List.{get_or_default}
use Rattle.std.proofs.lemmas.List.Elements.{Contains-get_or}
use Rattle.lists.specs.Lists.{keep, Every}
use Rattle.lists.specs.Front.{held}
use Rattle.lists.proofs.Cuts.{rest_more, rest-none}
use Rattle.lists.proofs.Counting.{rest_down}
use Rattle.lists.proofs.Held.{held-length, held_at, left_out, put_behind, all_put}
use Rattle.lists.proofs.Distinct.{every_at}
use Rattle.lists.proofs.Keep.{every_append}
use Rattle.lists.proofs.Contained.{contains_none, contains_tail, one_by_key}
use Rattle.rules.specs.Plain.{Departure, shard_of}
use Rattle.rules.specs.Over.{counts_before, earlier, owners, cuts_after, smallest_cut, left_by, OwnersLeft, CutsLeft, SmallestLeft, CountingLeft, counting}
use Rattle.rules.specs.Prune.{readable, answerable}
use Rattle.rules.proofs.Over.{OneEach, owners_left, cuts_left, smallest_left, over_left, counting_left, all_answer, one_silent}
use Rattle.judge.specs.Over.{nobody, at_place, left_of, OnFile, counts_first, LeavesOwners, LeavesCuts, LeavesSmallest, LeavesCounting}
use Rattle.judge.specs.View.{Shows}
use Rattle.judge.specs.declared.over.Left.{Left}
use Rattle.judge.specs.declared.views.Seen.{Seen}
use Rattle.judge.specs.declared.views.View.{View}
use Rattle.judge.proofs.Seeing.{unseen}

-- One more place: those that are left, with those still to come that pass, are all that pass.
module _ (ds : List Departure) (p : Departure → Bool) (all : List Departure) (i : ℕ) (h : i < length all) (places : List ℕ)
    (so_far : map (at_place ds) places ++ keep p (drop i all) ≡ keep p all) where
  pub one_more : (next : List ℕ) (j : ℕ) → at_place ds j ≡ get_or all i nobody → p (at_place ds j) ≡ true → next ≡ places ++ j ∷ [] →
      map (at_place ds) next ++ keep p (drop (i + 1) all) ≡ keep p all
  one_more next j e t n =
      put_behind (keep p all) (map (at_place ds) places) (at_place ds j) (map (at_place ds) next) (keep p (drop i all)) (keep p (drop (i + 1) all))
      (rw (rest_more nobody all i h, sym e, t)) (ap (map (at_place ds)) n ∙ map-append (at_place ds) places (j ∷ [])) so_far

  pub passed_by : p (get_or all i nobody) ≡ false → map (at_place ds) places ++ keep p (drop (i + 1) all) ≡ keep p all
  passed_by t = left_out (keep p all) (map (at_place ds) places) (keep p (drop i all)) (keep p (drop (i + 1) all)) (rw (rest_more nobody all i h, t)) so_far

pub all_left : (p : Departure → Bool) (all left : List Departure) (i : ℕ) → length all ≤ i → left ++ keep p (drop i all) ≡ keep p all → left ≡ keep p all
all_left p all left i h so_far = all_put (keep p all) left (keep p (drop i all)) (ap (keep p) (rest-none all i h)) so_far

-- places on file, and what is at them
pub still_on_file : (n : ℕ) (places next : List ℕ) (j : ℕ) → Every (λ k. k < n) places → j < n → next ≡ places ++ j ∷ [] → Every (λ k. k < n) next
still_on_file n places next j e h q = rw q (every_append (λ k. k < n) places (j ∷ []) e (h, tt))

pub left_length : (ds : List Departure) (x : Left) → length (left_of ds x) ≡ x.places.len
left_length ds x = length-map (held x.places) (at_place ds) ∙ held-length x.places

pub left_at : (ds : List Departure) (x : Left) (k : ℕ) → k < x.places.len → get_or (left_of ds x) k nobody ≡ at_place ds (get_or (held x.places) k 0)
left_at ds x k h = get_or_default (left_of ds x) k nobody (at_place ds 0) (omega (arith, left_length ds x)) ∙ get_or-map (at_place ds) (held x.places) k 0

pub place_on : (v : View) (x : Left) (k : ℕ) → OnFile v x → k < x.places.len → get_or (held x.places) k 0 < v.seen.len
place_on v x k f h = every_at (λ j. j < v.seen.len) 0 k (held x.places) (omega (arith, held-length x.places)) f

pub item_on : (v : View) (x : Left) (k : ℕ) → OnFile v x → k < x.places.len → get_or x.places.items k 0 < v.seen.len
item_on v x k f h = rw (held_at x.places k 0 h) at (place_on v x k f h)

-- the place whose turn it is, where the places are gone through as a slice
module _ (x : Left) (places : List ℕ) (same : places ≡ held x.places) (i : ℕ) (h : i < length places) where
  among : i < x.places.len
  among = omega (arith, h, ap length same, held-length x.places)

  pub turn_on : (v : View) → OnFile v x → get_or places i 0 < v.seen.len
  turn_on v f = rw same (place_on v x i f among)

  pub turn_at : (ds : List Departure) → get_or (left_of ds x) i nobody ≡ at_place ds (get_or places i 0)
  turn_at ds = left_at ds x i among ∙ ap (λ l. at_place ds (get_or l i 0)) (sym same)

  pub turn_in : (ds : List Departure) → i < length (left_of ds x)
  turn_in ds = omega (arith, among, left_length ds x)

filed : (ds : List Departure) (n : ℕ) → n ≤ length ds → (places : List ℕ) → Every (λ j. j < n) places → (d : Departure) → Contains (map (at_place ds) places) d → Contains ds d
filed ds n m [] f d c = absurd (contains_none d c)
filed ds n m (j ∷ places) f d c =
    ⊎_elim (λ e. subst (Contains ds) e (Contains-get_or ds j nobody (omega (arith, f.0)))) (filed ds n m places f.1 d) (contains_tail (at_place ds j) (map (at_place ds) places) c)

-- The smallest cut, gone through downwards: the first so far is the smallest of those gone through.
abbrev pub FirstOf : List Departure → found.Option ℕ → Option Departure → Type 0
FirstOf ds first o = map (at_place ds) (option_to_list first) ≡ left_by o

same_first : (ds : List Departure) (j : ℕ) (b : Departure) → FirstOf ds (found.Some j) (some b) → at_place ds j ≡ b
same_first ds j b e = ap (λ l. get_or l 0 nobody) e

won : (ds : List Departure) (d : Departure) (first : found.Option ℕ) (o : Option Departure) → FirstOf ds first o → counts_first ds d first ≡ true → earlier d o ≡ some d
won ds d found.None none e t = refl
won ds d found.None (some b) e t = absurd (nil≢cons e)
won ds d (found.Some j) none e t = absurd (cons≢nil e)
won ds d (found.Some j) (some b) e t = rw (ap (counts_before d) (sym (same_first ds j b e)) ∙ t)

lost : (ds : List Departure) (d : Departure) (first : found.Option ℕ) (o : Option Departure) → FirstOf ds first o → counts_first ds d first ≡ false → earlier d o ≡ o
lost ds d found.None o e t = absurd (true≢false t)
lost ds d (found.Some j) none e t = absurd (cons≢nil e)
lost ds d (found.Some j) (some b) e t = rw (ap (counts_before d) (sym (same_first ds j b e)) ∙ t)

-- the first of those from the k-th on
abbrev pub Downward : List Departure → Left → ℕ → found.Option ℕ → Type 0
Downward ds cuts k first = FirstOf ds first (smallest_cut (drop k (left_of ds cuts)))

module _ (ds : List Departure) (cuts : Left) (k : ℕ) (first : found.Option ℕ) (w : Downward ds cuts k first) where
  module _ (p : 0 < k) (h : k ≤ cuts.places.len) (place : ℕ) (at : place ≡ get_or (held cuts.places) (k - 1) 0) where
    one_down : drop (k - 1) (left_of ds cuts) ≡ at_place ds place ∷ drop k (left_of ds cuts)
    one_down =
        rest_down (left_of ds cuts) k nobody p (omega (arith, left_length ds cuts))
        ∙ ap (λ y. y ∷ drop k (left_of ds cuts)) (left_at ds cuts (k - 1) (omega arith) ∙ ap (at_place ds) (sym at))

    pub turn_won : counts_first ds (at_place ds place) first ≡ true → Downward ds cuts (k - 1) (found.Some place)
    turn_won t = ap left_by (sym (ap smallest_cut one_down ∙ won ds (at_place ds place) first (smallest_cut (drop k (left_of ds cuts))) w t))

    pub turn_lost : counts_first ds (at_place ds place) first ≡ false → Downward ds cuts (k - 1) first
    turn_lost t = w ∙ ap left_by (sym (ap smallest_cut one_down ∙ lost ds (at_place ds place) first (smallest_cut (drop k (left_of ds cuts))) w t))

  pub all_down : k ≡ 0 → (left : Left) → held left.places ≡ option_to_list first → left_of ds left ≡ left_by (smallest_cut (left_of ds cuts))
  all_down z left e = ap (map (at_place ds)) e ∙ w ∙ ap (λ n. left_by (smallest_cut (drop n (left_of ds cuts)))) z

-- What a step's list is says what it leaves.
pub owners_in_words : (v : View) (route : ℕ) (x : Left) → OnFile v x → ((ds : List Departure) (now : ℕ) → Shows ds now v → left_of ds x ≡ owners route ds) → LeavesOwners v route x
owners_in_words v route x f same =
    record { on_file = f; list = same; left = λ ds now s. subst (OwnersLeft route ds) (sym (same ds now s)) (owners_left route ds) }

pub cuts_in_words : (v : View) (anchor : ℕ) (owners x : Left) → OnFile v x →
    ((ds : List Departure) (now : ℕ) → Shows ds now v → left_of ds x ≡ cuts_after anchor (left_of ds owners)) → LeavesCuts v anchor owners x
cuts_in_words v anchor owners x f same =
    let left : (ds : List Departure) (now : ℕ) → Shows ds now v → CutsLeft anchor (left_of ds owners) (left_of ds x) =
    λ ds now s. subst (CutsLeft anchor (left_of ds owners)) (sym (same ds now s)) (cuts_left anchor (left_of ds owners)) in
    record { on_file = f; list = same; left = left; over = λ ds now route s o. over_left anchor route ds (left_of ds owners) (left_of ds x) o (left ds now s) }

pub smallest_in_words : (v : View) (cuts x : Left) → OnFile v cuts → OnFile v x →
    ((ds : List Departure) (now : ℕ) → Shows ds now v → left_of ds x ≡ left_by (smallest_cut (left_of ds cuts))) → LeavesSmallest v cuts x
smallest_in_words v cuts x g f same =
    let left : (ds : List Departure) (now : ℕ) → Shows ds now v → SmallestLeft (left_of ds cuts) (left_of ds x) =
    λ ds now s. subst (SmallestLeft (left_of ds cuts)) (sym (same ds now s)) (smallest_left (left_of ds cuts) (each ds now s)) in
    record {
      on_file = f;
      list = same;
      left = left;
      counts = λ ds now anchor route s o. counting_left anchor route ds (left_of ds cuts) (left_of ds x) o (left ds now s);
    }
  where
    each : (ds : List Departure) (now : ℕ) → Shows ds now v → OneEach (left_of ds cuts)
    each ds now s d b c e q =
        let on : (d : Departure) → Contains (left_of ds cuts) d → Contains ds d = filed ds v.seen.len (omega (arith, s.count)) (held cuts.places) g in
        one_by_key shard_of ds s.good.rows.order d b (on d c) (on b e) q

-- What is left answers: each of the first so many places shows a readable departure.
abbrev pub AllRead : View → List ℕ → ℕ → Type 0
AllRead v places i = (k : ℕ) → k < i → k < length places → (get_or v.seen.items (get_or places k 0) unseen).is_readable ≡ true

module _ (ds : List Departure) (now : ℕ) (v : View) (s : Shows ds now v) (left : Left) (f : OnFile v left) (places : List ℕ) (same : places ≡ held left.places) where
  read_at : (k : ℕ) → k < length places → (x : Seen) → (get_or v.seen.items (get_or places k 0) x).is_readable ≡ readable now (get_or (left_of ds left) k nobody)
  read_at k h x = rw (turn_at left places same k h ds) (s.seen (get_or places k 0) nobody x (turn_on left places same k h v f)).readable

  module _ (anchor route : ℕ) (l : CountingLeft anchor route ds (left_of ds left)) where
    pub answers : (i : ℕ) → length places ≤ i → AllRead v places i → answerable now (counting anchor route ds) ≡ true
    answers i many r = all_answer anchor route now ds (left_of ds left) s.good.rows.order l each
      where
        each : (d : Departure) → Contains (left_of ds left) d → readable now d ≡ true
        each d c =
            let h : c.0 < length places = omega (arith, c.1, left_length ds left, ap length same, held-length left.places) in
            ap (readable now) (sym (get_or_default (left_of ds left) c.0 nobody d c.1 ∙ c.2)) ∙ sym (read_at c.0 h unseen) ∙ r c.0 (omega arith) h

    pub silent : (k : ℕ) → k < length places → (x : Seen) → (get_or v.seen.items (get_or places k 0) x).is_readable ≡ false → answerable now (counting anchor route ds) ≡ false
    silent k h x q =
        one_silent anchor route now ds (left_of ds left) s.good.rows.order l (get_or (left_of ds left) k nobody)
        (Contains-get_or (left_of ds left) k nobody (turn_in left places same k h ds)) (sym (read_at k h x) ∙ q)

-- the three steps in turn
pub in_turn : (v : View) (route anchor : ℕ) (owning after left : Left) → LeavesOwners v route owning → LeavesCuts v anchor owning after → LeavesSmallest v after left →
    LeavesCounting v route anchor left
in_turn v route anchor owning after left o c s =
    record {
      on_file = s.on_file;
      list = λ ds now h. s.list ds now h ∙ ap (λ l. left_by (smallest_cut l)) (c.list ds now h ∙ ap (cuts_after anchor) (o.list ds now h));
      left = λ ds now h. s.counts ds now anchor route h (c.over ds now route h (o.left ds now h));
    }
