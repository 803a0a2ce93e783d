-- A call on two ledgers, one of which is the other less what a prune takes: the frame of the proofs for each kind of call. Both refuse
-- alike, say the same, and afterwards the one is again the other less that.
-- Assumes nothing.
use Prim.Native.Nat.{ℕ, zero, suc, ◌+◌, ◌-◌}
use mathlib.Core.Path.{◌≡◌, refl, sym, ap, ◌∙◌}
use mathlib.Core.Bool.{Bool, true, false, not, false≢true}
use mathlib.Core.List.{List, [], ◌∷◌, ◌++◌, Memᴰ}
use native.Mathlib.Omega.{arith}
use lib.Dec.{eqb}
use lib.ListN.{length}
use borrow.Author.Tests.{ltb-false, le-ltb}
use Rattle.lists.specs.Lists.{keep, Every, at, without, change, self, set_of}
use Rattle.lists.proofs.Keep.{keep_same, every_keep, every_more, every_member, every_change_if, length-keep}
use Rattle.lists.proofs.Order.{every_include_all}
use Rattle.lists.proofs.Parted.{every_from, get-keep, has-keep, keep-change, change_beside, keep-without, without_beside}
use Rattle.rules.specs.Numbers.{max_entries}
use Rattle.rules.specs.Plain.{Entry, Departure, Count, Plain, transaction_of, shard_of, with_entries, with_departures, with_counts, owed, entry_of}
use Rattle.rules.specs.Prune.{stands}
use Rattle.rules.specs.Outcome.{Outcome, said, done, unless, ◌gives◌then◌}
use Rattle.rules.specs.Calls.{unowed, no_room_for}
use Rattle.rules.specs.Good.{Good}
use Rattle.rules.specs.LeftOut.{Taking, less, Omitted, fallen_in, is_for_room, Clear}
use Rattle.rules.proofs.Less.{is_left, is_kept, Felled, Beside}
use Rattle.rules.proofs.Verdicts.{stands_beside}

-- a table with a line that wants room: where it does not refuse one ledger for that, it gives the other the same; m is what the lines
-- behind give, on both
pub table_same : (n m : ℕ) → is_for_room (suc n) ≡ true → (a c d r s : Bool) → (r ≡ false → s ≡ false) →
    is_for_room (a gives 5 then c gives 3 then d gives 4 then r gives suc n then m) ≡ false →
    a gives 5 then c gives 3 then d gives 4 then s gives suc n then m ≡ a gives 5 then c gives 3 then d gives 4 then r gives suc n then m
table_same n m w true c d r s f h = refl
table_same n m w false true d r s f h = refl
table_same n m w false false true r s f h = refl
table_same n m w false false false true s f h = absurd (false≢true (sym h ∙ w))
table_same n m w false false false false s f h = rw (f refl)

-- what is reached with the prunes is what is reached without them, less what the last one took
pub record Moved (o : Omitted) (fell : Felled) (with without : Plain) : Type 0 where
  pub is : with ≡ less o.taken without
  pub beside : Beside o fell without

-- the one says ws, the ledgers moved, and on the other n of the fallen closed; ws is mostly what the other says, and n is 0
pub record Saying (o : Omitted) (fell : Felled) (n : ℕ) (ws : List ℕ) (with without : Outcome) : Type 0 where
  pub says : said with ≡ ws
  pub since : Felled
  pub told : since.told ≡ fell.told
  pub there : since.there + n ≡ fell.there
  pub moved : Moved o since with.ledger without.ledger

abbrev pub Paired : Omitted → Felled → Outcome → Outcome → Type 0
Paired o fell with without = Saying o fell 0 (said without) with without

pub same_felled : {o : Omitted} {fell : Felled} (ws : List ℕ) (a b : Outcome) → said a ≡ ws → Moved o fell a.ledger b.ledger → Saying o fell 0 ws a b
same_felled {fell = fell} ws a b s m = record { says = s; since = fell; told = refl; there = omega arith; moved = m }

module _ (o : Omitted) (fell : Felled) where
  pub unless_paired : (n : ℕ) (p : Plain) (a b : Outcome) → Beside o fell p → Good (unless n p b).ledger → (n ≡ 0 → Good b.ledger → Paired o fell a b) →
      Paired o fell (unless n (less o.taken p) a) (unless n p b)
  unless_paired zero p a b v g f = f refl g
  unless_paired (suc n) p a b v g f = same_felled _ _ _ refl (record { is = refl; beside = v })

  pub done_paired : (l m : List ℕ) (p q : Plain) → l ≡ m → Moved o fell p q → Paired o fell (done l p) (done m q)
  done_paired l m p q e v = same_felled _ _ _ (ap (λ l. 0 ∷ l ++ []) e) v

  module _ (p : Plain) (b : Beside o fell p) where
    abbrev k : Taking
    k = o.taken

    abbrev pub stays : List Entry → List Entry
    stays es = keep (λ e. is_left o.taken (transaction_of e)) es

    abbrev pub goes : List Entry → List Entry
    goes es = keep (λ e. o.taken.is_fallen (transaction_of e)) es

    -- other entries and other counts: of the fallen entries the same, and the others clear
    pub counted_moved : (cs : List Count) (es fs : List Entry) → Good (with_counts cs (with_entries es p)) → stays es ≡ fs → goes es ≡ goes p.entries →
        Every (Clear k p) fs → Moved o fell (with_counts cs (with_entries fs (less k p))) (with_counts cs (with_entries es p))
    counted_moved cs es fs g l r c =
        record {
          is = ap (λ es. with_counts cs (with_entries es (less k p))) (sym l);
          beside =
              record {
                good = g;
                clear = rw l c;
                fall = rw r (every_more _ _ (λ e h. stands_beside p es cs o.clock e ∙ h) (goes p.entries) b.fall);
                same = rw r b.same;
                many = rw r b.many;
              };
        }

    pub entries_moved : (es fs : List Entry) → Good (with_entries es p) → stays es ≡ fs → goes es ≡ goes p.entries → Every (Clear k p) fs →
        Moved o fell (with_entries fs (less k p)) (with_entries es p)
    entries_moved es fs g l r c = counted_moved p.counts es fs g l r c

    -- one entry changed
    pub change_moved : (x : ℕ) (f : Entry → Entry) → k.is_fallen x ≡ false → ((e : Entry) → transaction_of (f e) ≡ transaction_of e) →
        ((e : Entry) → Clear k p e → Clear k p (f e)) → Good (with_entries (change transaction_of x f p.entries) p) →
        Moved o fell (with_entries (change transaction_of x f (stays p.entries)) (less k p)) (with_entries (change transaction_of x f p.entries) p)
    change_moved x f n c d g =
        entries_moved (change transaction_of x f p.entries) (change transaction_of x f (stays p.entries)) g
        (keep-change transaction_of (is_left k) f c x p.entries)
        (change_beside transaction_of k.is_fallen f c x n p.entries)
        (every_change_if (Clear k p) (at transaction_of x) f (stays p.entries) d b.clear)

    -- one entry released
    pub without_moved : (x : ℕ) → k.is_fallen x ≡ false → Good (with_entries (without transaction_of x p.entries) p) →
        Moved o fell (with_entries (without transaction_of x (stays p.entries)) (less k p)) (with_entries (without transaction_of x p.entries) p)
    without_moved x n g =
        entries_moved (without transaction_of x p.entries) (without transaction_of x (stays p.entries)) g
        (keep-without transaction_of (is_left k) x p.entries)
        (without_beside transaction_of k.is_fallen x n p.entries)
        (every_keep (Clear k p) (λ e. not (eqb (transaction_of e) x)) (stays p.entries) b.clear)

    -- other departures: of the dropped none more that a clear entry holds, and by which no fallen entry stands
    pub departures_moved : (ds fs : List Departure) → Good (with_departures ds p) → keep (λ d. is_kept k (shard_of d)) ds ≡ fs →
        ((e : Entry) → Clear k p e → Clear k (with_departures ds p) e) →
        ((e : Entry) → Memᴰ e (fallen_in k p) → stands p o.clock e ≡ false → stands (with_departures ds p) o.clock e ≡ false) →
        Moved o fell (with_departures fs (less k p)) (with_departures ds p)
    departures_moved ds fs g l c f =
        record {
          is = ap (λ ds. with_departures ds (less k p)) (sym l);
          beside =
              record {
                good = g;
                clear = every_more (Clear k p) (Clear k (with_departures ds p)) c (stays p.entries) b.clear;
                fall =
                    every_from (λ e. stands (with_departures ds p) o.clock e ≡ false) (fallen_in k p)
                    (λ e m. f e m (every_member (λ e. stands p o.clock e ≡ false) (fallen_in k p) b.fall m));
                same = b.same;
                many = b.many;
              };
        }

    -- What is found of a transaction that has not fallen.
    pub entry_same : (x : ℕ) → k.is_fallen x ≡ false → entry_of x (less k p) ≡ entry_of x p
    entry_same x n = get-keep transaction_of (is_left k) x (ap not n) p.entries

    pub owed_same : (x : ℕ) → k.is_fallen x ≡ false → owed x (less k p) ≡ owed x p
    owed_same x n = has-keep transaction_of (is_left k) x (ap not n) p.entries

    -- Room: what the prune took leaves more.
    unowed_same : (xs : List ℕ) → Every (λ x. k.is_fallen x ≡ false) xs → unowed xs (less k p) ≡ unowed xs p
    unowed_same xs v =
        keep_same _ _ (set_of xs)
        (λ x m. ap not (owed_same x (every_member (λ x. k.is_fallen x ≡ false) (set_of xs) (every_include_all self (λ x. k.is_fallen x ≡ false) xs [] v tt) m)))

    pub room-less : (xs : List ℕ) → Every (λ x. k.is_fallen x ≡ false) xs → no_room_for xs p ≡ false → no_room_for xs (less k p) ≡ false
    room-less xs v h =
        le-ltb (max_entries - length (stays p.entries)) (length (unowed xs (less k p)))
        (omega (
          arith,
          ltb-false (max_entries - length p.entries) (length (unowed xs p)) h,
          length-keep (λ e. is_left k (transaction_of e)) p.entries,
          ap length (unowed_same xs v),
        ))
