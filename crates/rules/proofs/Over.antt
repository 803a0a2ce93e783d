-- What each of the three steps leaves, that together they leave the departure that counts and no other, and that all three are one choice among
-- the departures over the route.
-- Assumes nothing.
use Prim.Native.Nat.{ℕ, ◌≤◌, ◌<◌}
use mathlib.Core.Path.{◌≡◌, refl, sym, ap, subst, ◌∙◌}
use mathlib.Core.Bool.{Bool, true, false, cond, ◌&&◌, false≢true, true≢false}
use mathlib.Core.List.{List, [], ◌∷◌, cons≢nil}
use mathlib.Core.Logic.{◌↔◌, ⊎_elim}
use mathlib.Core.Option.{Option, none, some}
use native.Mathlib.Omega.{arith}
use borrow.Author.Tests.{lt-ltb, le-ltb, eqb-true, eqb-false, eq-eqb, ne_eqb, leb-true, leb-false, le-leb, lt-leb}
use lib.Dec.{eqb, ltb, leb}
use Rattle.std.specs.Prelude.{Contains}
use Rattle.lists.specs.Lists.{keep, Ascending}
use Rattle.lists.proofs.Tests.{or_left, and_left, and_right, and_both}
use Rattle.lists.proofs.Order.{by_order}
use Rattle.lists.proofs.Contained.{contains-keep, contains_none, contains_first, contains_more, contains_tail, one_by_key}
use Rattle.lists.proofs.Sets.{keep_both}
use Rattle.rules.specs.Plain.{Entry, Departure, shard_of}
use Rattle.rules.specs.Over.{is_owner, is_after, is_over, over, counts_before, earlier, owners, cuts_after, smallest_cut, counting, departure_over, left_by, OwnersLeft, CutsLeft, OverLeft, NoneBefore, SmallestLeft, CountingLeft}
use Rattle.rules.specs.Prune.{readable, answerable}

-- Which of two counts: an order of cuts, and of shards on equal cuts.

sooner : (d b : Departure) → d.cut < b.cut → counts_before d b ≡ true
sooner d b h = or_left (ltb d.cut b.cut) (eqb d.cut b.cut && leb d.shard b.shard) (lt-ltb d.cut b.cut h)

later : (d b : Departure) → b.cut < d.cut → counts_before d b ≡ false
later d b h = rw (le-ltb d.cut b.cut (omega (arith, h)), ne_eqb d.cut b.cut (λ q. omega (arith, h, q)))

level : (d b : Departure) → d.cut ≡ b.cut → counts_before d b ≡ leb d.shard b.shard
level d b h = rw (le-ltb d.cut b.cut (omega (arith, h)), eq-eqb d.cut b.cut h)

-- who counts before a departure of another shard does not count behind it
not_behind : (d x : Departure) → counts_before d x ≡ true → (x.shard ≡ d.shard → ⊥) → counts_before x d ≡ false
not_behind d x h n =
    by_order d.cut x.cut
    (λ s. later x d s)
    (λ q. level x d (sym q) ∙ higher (leb-true d.shard x.shard (sym (level d x q) ∙ h)))
    (λ l. absurd (false≢true (sym (later d x l) ∙ h)))
  where
    higher : d.shard ≤ x.shard → leb x.shard d.shard ≡ false
    higher w = by_order d.shard x.shard (λ s. lt-leb x.shard d.shard s) (λ q. absurd (n (sym q))) (λ l. absurd (omega (arith, w, l)))

one_before : (d b : Departure) → counts_before d b ≡ false → counts_before b d ≡ true
one_before d b h =
    by_order d.cut b.cut
    (λ s. absurd (true≢false (sym (sooner d b s) ∙ h)))
    (λ q. level b d (sym q) ∙ le-leb b.shard d.shard (omega (arith, leb-false d.shard b.shard (sym (level d b q) ∙ h))))
    (λ l. sooner b d l)

before_itself : (d : Departure) → counts_before d d ≡ true
before_itself d = level d d refl ∙ le-leb d.shard d.shard (omega arith)

before_all : (a b c : Departure) → counts_before a b ≡ true → counts_before b c ≡ true → counts_before a c ≡ true
before_all a b c h k =
    by_order a.cut b.cut
    (λ s. sooner a c (omega (arith, s, no_later b c k)))
    (λ q. by_order b.cut c.cut
    (λ s. sooner a c (omega (arith, q, s)))
    (λ r. level a c (q ∙ r) ∙ le-leb a.shard c.shard (omega (arith, leb-true a.shard b.shard (sym (level a b q) ∙ h), leb-true b.shard c.shard (sym (level b c r) ∙ k))))
    (λ l. absurd (false≢true (sym (later b c l) ∙ k))))
    (λ l. absurd (false≢true (sym (later a b l) ∙ h)))
  where
    no_later : (d x : Departure) → counts_before d x ≡ true → d.cut ≤ x.cut
    no_later d x w = by_order d.cut x.cut (λ s. omega (arith, s)) (λ q. omega (arith, q)) (λ l. absurd (false≢true (sym (later d x l) ∙ w)))

-- The choice: one of them, which counts before each, or none of none.

record Best (l : List Departure) (d : Departure) : Type 0 where
  among : Contains l d
  before : (x : Departure) → Contains l x → counts_before d x ≡ true

abbrev Chosen : List Departure → Option Departure → Type 0
Chosen l none = l ≡ []
Chosen l (some d) = Best l d

chosen : (l : List Departure) → Chosen l (smallest_cut l)
chosen [] = refl
chosen (y ∷ l) = go (smallest_cut l) (chosen l)
  where
    among_these : (d x : Departure) → counts_before d y ≡ true → ((z : Departure) → Contains l z → counts_before d z ≡ true) → Contains (y ∷ l) x → counts_before d x ≡ true
    among_these d x h f c = ⊎_elim (λ e. ap (counts_before d) (sym e) ∙ h) (λ m. f x m) (contains_tail y l c)

    pick : (b : Departure) → Best l b → (t : Bool) → counts_before y b ≡ t → Chosen (y ∷ l) (cond t (some y) (some b))
    pick b best true e =
        record { among = contains_first y l; before = λ x c. among_these y x (before_itself y) (λ z m. before_all y b z e (best.before z m)) c }
    pick b best false e =
        record { among = contains_more y l best.among; before = λ x c. among_these b x (one_before y b e) best.before c }

    go : (o : Option Departure) → Chosen l o → Chosen (y ∷ l) (earlier y o)
    go none e = record {
      among = contains_first y l;
      before = λ x c. among_these y x (before_itself y) (λ z m. absurd (contains_none z (subst (λ k. Contains k z) e m))) c;
    }
    go (some b) best = pick b best (counts_before y b) refl

-- What each step leaves.

pub owners_left : (route : ℕ) (ds : List Departure) → OwnersLeft route ds (owners route ds)
owners_left route ds d = contains-keep (is_owner route) ds d

pub cuts_left : (anchor : ℕ) (ds : List Departure) → CutsLeft anchor ds (cuts_after anchor ds)
cuts_left anchor ds d = contains-keep (is_after anchor) ds d

-- none stands twice
abbrev pub OneEach : List Departure → Type 0
OneEach ds = (x y : Departure) → Contains ds x → Contains ds y → x.shard ≡ y.shard → x ≡ y

pub smallest_left : (ds : List Departure) → OneEach ds → SmallestLeft ds (left_by (smallest_cut ds))
smallest_left ds u = go (smallest_cut ds) (chosen ds)
  where
    only : (b : Departure) → Best ds b → (d : Departure) → Contains ds d → NoneBefore ds d → (t : Bool) → eqb b.shard d.shard ≡ t → b ≡ d
    only b best d c n true e = u b d best.among c (eqb-true b.shard d.shard e)
    only b best d c n false e = absurd (true≢false (sym (best.before d c) ∙ n b best.among (eqb-false b.shard d.shard e)))

    none_before : (b : Departure) → Best ds b → NoneBefore ds b
    none_before b best x c other = not_behind b x (best.before x c) other

    go : (o : Option Departure) → Chosen ds o → SmallestLeft ds (left_by o)
    go none e = record {
      which = λ d. (λ c. absurd (contains_none d c), λ c. absurd (contains_none d (subst (λ k. Contains k d) e c.0)));
      one = omega arith;
      none = λ q. e;
    }
    go (some b) best = record {
      which = λ d. (
        λ c. ⊎_elim (λ e. subst (λ z. Contains ds z × NoneBefore ds z) e (best.among, none_before b best)) (λ m. absurd (contains_none d m)) (contains_tail b [] c),
        λ c. subst (λ z. Contains (b ∷ []) z) (only b best d c.0 c.1 (eqb b.shard d.shard) refl) (contains_first b []),
      );
      one = omega arith;
      none = λ q. absurd (cons≢nil q);
    }

-- One step after the other: the second leaves what is over the route, the third what counts.

module _ (anchor route : ℕ) (file : List Departure) where
  pub over_left : (owning left : List Departure) → OwnersLeft route file owning → CutsLeft anchor owning left → OverLeft anchor route file left
  over_left owning left o c d = (
    λ m. let w = (c d).0 m in let v = (o d).0 w.0 in (v.0, and_both (is_owner route d) (is_after anchor d) v.1 w.1),
    λ w. (c d).1 ((o d).1 (w.0, and_left (is_owner route d) (is_after anchor d) w.1), and_right (is_owner route d) (is_after anchor d) w.1),
  )

  pub counting_left : (over left : List Departure) → OverLeft anchor route file over → SmallestLeft over left → CountingLeft anchor route file left
  counting_left over left o s = record {
    which = λ d. (
      λ m. let w = (s.which d).0 m in let v = (o d).0 w.0 in record { on_file = v.0; over = v.1; first = λ x k h. w.1 x ((o x).1 (k, h)) },
      λ w. (s.which d).1 ((o d).1 (w.on_file, w.over), λ x k. let v = (o x).0 k in w.first x v.0 v.1),
    );
    one = s.one;
    none = λ e d k. no_test (is_over anchor route d) (λ h. contains_none d (subst (λ l. Contains l d) (s.none e) ((o d).1 (k, h))));
  }
    where
      no_test : (b : Bool) → (b ≡ true → ⊥) → b ≡ false
      no_test true f = absurd (f refl)
      no_test false f = refl

  -- the definitions leave those over the route, and then the one that counts
  pub definition_over : OverLeft anchor route file (cuts_after anchor (owners route file))
  definition_over = over_left (owners route file) (cuts_after anchor (owners route file)) (owners_left route file) (cuts_left anchor (owners route file))

  pub definition_counts : Ascending shard_of file → CountingLeft anchor route file (left_by (counting anchor route file))
  definition_counts a =
      counting_left (cuts_after anchor (owners route file)) (left_by (counting anchor route file)) definition_over
      (smallest_left (cuts_after anchor (owners route file)) (λ x y m n h. one_by_key shard_of file a x y ((definition_over x).0 m).0 ((definition_over y).0 n).0 h))

-- so whoever leaves the departure that counts leaves that of the definitions: it answers if all that is left answers, and does not if some does not
module _ (anchor route now : ℕ) (ds left : List Departure) (a : Ascending shard_of ds) (l : CountingLeft anchor route ds left) where
  same : (d : Departure) → Contains left d ↔ Contains (left_by (counting anchor route ds)) d
  same d =
      let m = definition_counts anchor route ds a in
      (λ c. (m.which d).1 ((l.which d).0 c), λ c. (l.which d).1 ((m.which d).0 c))

  pub all_answer : ((d : Departure) → Contains left d → readable now d ≡ true) → answerable now (counting anchor route ds) ≡ true
  all_answer f = go (counting anchor route ds) (λ d c. f d ((same d).1 c))
    where
      go : (o : Option Departure) → ((d : Departure) → Contains (left_by o) d → readable now d ≡ true) → answerable now o ≡ true
      go none g = refl
      go (some d) g = g d (contains_first d [])

  pub one_silent : (d : Departure) → Contains left d → readable now d ≡ false → answerable now (counting anchor route ds) ≡ false
  one_silent d c h = go (counting anchor route ds) ((same d).0 c)
    where
      go : (o : Option Departure) → Contains (left_by o) d → answerable now o ≡ false
      go none m = absurd (contains_none d m)
      go (some b) m = ⊎_elim (λ e. ap (readable now) e ∙ h) (λ k. absurd (contains_none d k)) (contains_tail b [] m)

-- The steps at once: the smallest cut of those over the route. Lists of departures of which the same are over it agree on the one that counts.
pub over_route : (ds : List Departure) (e : Entry) (r : ℕ) → departure_over ds e r ≡ smallest_cut (keep (over e r) ds)
over_route ds e r = ap smallest_cut (keep_both (is_owner r) (is_after e.terms.anchor) ds)

pub same_over : (ds cs : List Departure) (e : Entry) (r : ℕ) → keep (over e r) ds ≡ keep (over e r) cs → departure_over ds e r ≡ departure_over cs e r
same_over ds cs e r h = over_route ds e r ∙ ap smallest_cut h ∙ sym (over_route cs e r)
