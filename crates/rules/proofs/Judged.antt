-- A list of calls that passes the computed test stays apart, and so the prunes among it, left out, do not show.
-- Assumes nothing.
use Prim.Native.Nat.{ℕ}
use mathlib.Core.Path.{◌≡◌}
use mathlib.Core.Bool.{true, false, not, ◌||◌}
use mathlib.Core.List.{List, [], ◌∷◌}
use lib.Dec.{leb}
use borrow.Author.Tests.{not-true, leb-true}
use Rattle.lists.specs.Lists.{all, all_of, has, Every}
use Rattle.lists.proofs.Tests.{and_left, and_right}
use Rattle.lists.proofs.Keep.{each_of, every_all, every_more}
use Rattle.lists.proofs.Parted.{all_fail}
use Rattle.rules.specs.Plain.{Entry, Departure, Plain, transaction_of, shard_of, owed}
use Rattle.rules.specs.Prune.{holds}
use Rattle.rules.specs.Calls.{Call, step, run}
use Rattle.rules.specs.Good.{Good, OfWords}
use Rattle.rules.specs.LeftOut.{fallen_in, dropped_in, touch, bare, Omitted, none_yet, after, is_for_room, Clear, Unheld, Apart, calls_of, EachApart, AllApart, apart_tests, each_tests, all_apart, Unseen}
use Rattle.rules.proofs.LeftOut.{left_out}

apart_test : (o : Omitted) (c : Call) (p : Plain) → all_of (apart_tests o c p) ≡ true → Apart o c p
apart_test o c p h =
    let v = each_of (apart_tests o c p) h in
    record {
      named = all_fail o.taken.is_fallen (touch c).names v.0;
      clear = every_more _ _ clear ((touch c).takes p.local) (every_all _ ((touch c).takes p.local) v.1.0);
      kept = all_fail o.taken.is_dropped (touch c).shards v.1.1.0;
      unheld = every_more _ _ unheld (touch c).files (every_all _ (touch c).files v.1.1.1.0);
      room = λ f. not-true (is_for_room (step c p).refused) (rw f at v.1.1.1.1.0);
      steady = every_more _ _ (λ now q. leb-true o.clock now q) (touch c).prunes (every_all (leb o.clock) (touch c).prunes v.1.1.1.1.1.0);
    }
  where
    clear : (e : Entry) → owed (transaction_of e) p || all (λ d. not (holds p.local d e)) (dropped_in o.taken p) ≡ true →
        owed (transaction_of e) p ≡ false → Clear o.taken p e
    clear e t f = all_fail (λ d. holds p.local d e) (dropped_in o.taken p) (rw f at t)

    unheld : (d : Departure) → has shard_of (shard_of d) p.departures || all (λ e. not (holds p.local d e)) (fallen_in o.taken p) ≡ true →
        has shard_of (shard_of d) p.departures ≡ false → Unheld o.taken p d
    unheld d t f = all_fail (holds p.local d) (fallen_in o.taken p) (rw f at t)

each_apart_test : (o : Omitted) (cs : List Call) (p : Plain) → all (λ ts. all_of ts) (each_tests o cs p) ≡ true → EachApart o cs p
each_apart_test o [] p h = tt
each_apart_test o (c ∷ cs) p h =
    (apart_test o c p (and_left (all_of (apart_tests o c p)) _ h), λ r. each_apart_test o cs (step c p).ledger (rw r at (and_right (all_of (apart_tests o c p)) _ h)))

pub all_apart_test : (o : Omitted) (u : ℕ) (cs : List Call) (p : Plain) → all_apart o u cs p ≡ true → AllApart o u cs p
all_apart_test o u [] p h = leb-true o.clock u h
all_apart_test o u (c ∷ cs) p h = (
  each_apart_test o (calls_of c) p (and_left (all (λ ts. all_of ts) (each_tests o (calls_of c) p)) _ h),
  all_apart_test (after c p o) u cs (run (bare (c ∷ [])) p) (and_right (all (λ ts. all_of ts) (each_tests o (calls_of c) p)) _ h),
)

pub judged : (u : ℕ) (cs : List Call) → Every OfWords cs → (p : Plain) → Good p → all_apart none_yet u cs p ≡ true → Unseen u cs p
judged u cs w p g h = left_out u cs w p g (all_apart_test none_yet u cs p h)
