-- What a view shows at a place, the ownership of a route told by one shift, and what is then said of an entry's routes and of its naming shard.
-- Assumes nothing.
use Prim.Native.Nat.{ℕ, suc, ◌+◌, ◌/◌, ◌^◌, ◌<◌}
use mathlib.Core.Path.{◌≡◌, refl, sym, ap, ap₂, subst, ◌∙◌}
use mathlib.Core.Bool.{Bool, true, false, ◌&&◌, ◌||◌}
use mathlib.Core.List.{List, [], ◌∷◌}
use native.Mathlib.Omega.{arith}
use borrow.Author.Tests.{lt-ltb, leb-true, eq-eqb, ne_eqb}
use lib.Count.{count_leading_zeros}
use lib.Dec.{eqb, ltb, leb}
use lib.ListN.{length, get_or}
use Rattle.lists.specs.Lists.{keep, any}
use Rattle.lists.specs.Front.{held}
use Rattle.lists.proofs.Held.{held-length, held_at}
use Rattle.lists.proofs.Picked.{any-kept}
use Rattle.lists.proofs.Tests.{or_left, and_left, and_both, and_false}
use Rattle.lists.proofs.Keep.{any_same}
use Rattle.rules.specs.Numbers.{owns, is_shard}
use Rattle.rules.specs.Plain.{is_remote, Departure, Entry, is_named}
use Rattle.rules.specs.Over.{is_owner, is_after, is_over, counting}
use Rattle.rules.specs.Prune.{readable, answerable, is_of_departed_by, holds}
use Rattle.types.proofs.Bits.{topped, owned}
use Rattle.judge.specs.Answers.{Asks, is_answerable, covers_some, named_readable}
use Rattle.judge.specs.Over.{nobody, at_place}
use Rattle.judge.specs.View.{Sees, Shows, departure_of}
use Rattle.judge.specs.declared.views.Seen.{Seen}
use Rattle.judge.specs.declared.views.View.{View}

pub unseen : Seen
unfolding count_leading_zeros
unseen = record { shard = record { 0 = 1 }; zeros = 63; cut = record { 0 = 0 }; is_readable = false; real = refl; topped = refl; within = omega arith }

module _ (ds : List Departure) (now : ℕ) (v : View) (s : Shows ds now v) where
  -- the departure at a place of the view
  pub seen_at : (j : ℕ) (x : Seen) → j < v.seen.len → x ≡ get_or v.seen.items j x → Sees now (at_place ds j) x
  seen_at j x h e = subst (λ y. Sees now (at_place ds j) y) (sym e) (s.seen j nobody x h)

  -- what is told of it is so of the departure
  pub owner_at : (j : ℕ) (x : Seen) → j < v.seen.len → x ≡ get_or v.seen.items j x → (route : ℕ) → is_owner route (departure_of x) ≡ is_owner route (at_place ds j)
  owner_at j x h e route = rw (seen_at j x h e).shard

  pub after_at : (j : ℕ) (x : Seen) → j < v.seen.len → x ≡ get_or v.seen.items j x → (anchor : ℕ) → is_after anchor (departure_of x) ≡ is_after anchor (at_place ds j)
  after_at j x h e anchor = rw (seen_at j x h e).cut

-- ownership told by one shift
pub owned_by : (route shard z : ℕ) → is_shard shard ≡ true → z ≡ count_leading_zeros 64 shard → eqb ((route / 2 + 2 ^ 63) / 2 ^ z) shard ≡ owns shard route
owned_by route shard z good e = rw e (owned shard route (topped shard good))

-- a departure over a remote route, and that some route of an entry is one
abbrev pub over_remote : ℕ → ℕ → Departure → ℕ → Bool
over_remote anchor local d route = is_remote local route && is_over anchor route d

pub said_covers : (local : ℕ) (routes : List ℕ) (d : Departure) (e : Entry) (x : Seen) (r : Bool) (anchor : ℕ) → x.shard.0 ≡ d.shard → x.cut.0 ≡ d.cut →
    Asks routes anchor e → r ≡ any (over_remote anchor local (departure_of x)) routes → r ≡ covers_some local d e
said_covers local routes d e x r anchor es ec asks h =
    h ∙ any_same _ (over_remote anchor local d) routes (λ y m. rw (es, ec))
    ∙ sym (any-kept (λ y. is_over anchor y d) (is_remote local) routes)
    ∙ rw (asks.anchor, asks.routes)

-- a remote route that is answered, and that some route of an entry is one
abbrev pub answered : ℕ → List Departure → ℕ → ℕ → ℕ → Bool
answered now ds anchor local route = is_remote local route && answerable now (counting anchor route ds)

pub said-answers : (now : ℕ) (ds : List Departure) (local : ℕ) (routes : List ℕ) (e : Entry) (r : Bool) (anchor : ℕ) → Asks routes anchor e →
    r ≡ any (answered now ds anchor local) routes → r ≡ is_answerable now ds local e
said-answers now ds local routes e r anchor asks h =
    h ∙ sym (any-kept (λ x. answerable now (counting anchor x ds)) (is_remote local) routes) ∙ rw (asks.anchor, asks.routes)

-- a readable departure of the naming shard
abbrev pub named_open : ℕ → ℕ → Departure → Bool
named_open now departed_by d = eqb departed_by d.shard && readable now d

pub said-named : (now : ℕ) (ds : List Departure) (e : Entry) (r : Bool) (departed_by : ℕ) → e.departed_by ≡ departed_by → ltb 0 e.departed_by ≡ true →
    r ≡ any (named_open now departed_by) ds → r ≡ named_readable now ds e
said-named now ds e r departed_by n t h =
    h ∙ ap (λ m. any (named_open now m) ds) (sym n) ∙ sym (any-kept (readable now) (λ d. eqb e.departed_by d.shard) ds)
    ∙ ap (λ b. any (readable now) (keep (λ d. b && eqb e.departed_by d.shard) ds)) (sym t)

-- the same test of two lists, place by place
alike : {A B : Type 0} (p : A → Bool) (q : B → Bool) (a : A) (b : B) (xs : List A) (ys : List B) → length xs ≡ length ys →
    ((j : ℕ) → j < length xs → p (get_or xs j a) ≡ q (get_or ys j b)) → any p xs ≡ any q ys
alike p q a b [] [] h f = refl
alike p q a b [] (y ∷ ys) h f = absurd (omega arith)
alike p q a b (x ∷ xs) [] h f = absurd (omega arith)
alike p q a b (x ∷ xs) (y ∷ ys) h f = ap₂ ◌||◌ (f 0 (omega arith)) (alike p q a b xs ys (omega arith) (λ j k. f (suc j) (omega arith)))

-- a readable departure of the naming shard, as the view has it
abbrev pub seen_open : ℕ → Seen → Bool
seen_open departed_by x = eqb departed_by x.shard.0 && x.is_readable

pub said-open : (ds : List Departure) (now : ℕ) (v : View) (departed_by : ℕ) → Shows ds now v →
    any (seen_open departed_by) (held v.seen) ≡ any (named_open now departed_by) ds
said-open ds now v departed_by s =
    let many = held-length v.seen in
    alike (seen_open departed_by) (named_open now departed_by) unseen nobody (held v.seen) ds (omega (arith, many, s.count)) (λ j h.
    let see = s.seen j nobody unseen (omega (arith, many)) in
    rw (held_at v.seen j unseen (omega (arith, many)), see.shard, see.readable))

-- what an entry holds: a departure of its naming shard, or one over a remote route
pub named-holds : (local : ℕ) (d : Departure) (e : Entry) → is_shard d.shard ≡ true → e.departed_by ≡ d.shard → true ≡ holds local d e
named-holds local d e good h =
    let some = leb-true 1 d.shard (and_left (leb 1 d.shard) (ltb d.shard (2 ^ 33)) good) in
    sym (or_left (is_of_departed_by e d) (covers_some local d e) (and_both (is_named e) (eqb e.departed_by d.shard) (lt-ltb 0 e.departed_by (omega arith)) (eq-eqb e.departed_by d.shard h)))

pub other_holds : (local : ℕ) (d : Departure) (e : Entry) (r : Bool) → (e.departed_by ≡ d.shard → ⊥) → r ≡ covers_some local d e → r ≡ holds local d e
other_holds local d e r h t =
    t ∙ ap (λ b. b || covers_some local d e) (sym (ap (λ b. is_named e && b) (ne_eqb e.departed_by d.shard h) ∙ and_false (is_named e)))
