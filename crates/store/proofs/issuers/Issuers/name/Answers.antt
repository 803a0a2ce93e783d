-- A pair that stands is not put in again; a new one goes in where its key ranks.
use Rattle.std.proofs.Common.{ℕ, ◌≡◌, ◌≤◌, ◌<◌, ◌+◌, ◌^◌, ◌∙◌, Bool, true, false, List, take, sym, ap, arith, rules}
use Rattle.lists.specs.Lists.{has, include, zip_by}
use Rattle.lists.specs.Arrays.{insert_at, rank, Inserted}
use Rattle.lists.proofs.Order.{ascending-include, include-known, length-include_new}
use Rattle.lists.proofs.Distinct.{every_insert_at}
use Rattle.lists.proofs.Loops.{rank_le, include-rank}
use Rattle.lists.proofs.Zip.{insert-pairs}
use Rattle.rules.specs.Index.{pair_key, names}
use Rattle.types.specs.Transactions.{number_of}
use Rattle.store.specs.declared.issuers.Issuers.{Issuers}
use Rattle.store.specs.Issuers.{room_for, pair, pairs_in, is_before}
use Rattle.store.proofs.Pairs.{pairs-length}
use Rattle.store.proofs.Keyed.{Word, pairs-words, has-names, rank-key}
use Rattle.store.proofs.issuers.Issuers.name.Goals as goal

module _ (x : Issuers) (r t : ℕ) (w : Word t) where
  stands : (b c : Bool) → b ≡ names (pairs_in x) r t → b ≡ c → has pair_key (pair_key (pair r t)) (pairs_in x) ≡ c
  stands b c e q = has-names r t w (pairs_in x) (pairs-words x) ∙ sym e ∙ q

  module _ (k : ℕ) (new : has pair_key (pair_key (pair r t)) (pairs_in x) ≡ false) (f : k ≡ rank (is_before r t) (pairs_in x)) where
    place : k ≤ x.len
    place = omega (arith, f, rank_le (is_before r t) (pairs_in x), pairs-length x)

    more : room_for x r t → x.len < 384
    more h = omega (arith, pairs-length x, h, length-include_new pair_key (pair r t) (pairs_in x) new)

    put : (us vs : List ℕ) → Inserted x.records x.len k r us → Inserted x.transactions x.len k t vs →
        zip_by pair (take (x.len + 1) us) (take (x.len + 1) vs) ≡ include pair_key (pair r t) (pairs_in x)
    put us vs o p =
        insert-pairs pair x.records x.transactions x.len (omega (arith, x.room, x.lengths.0)) (omega (arith, x.room, x.lengths.1)) k r t us vs place o.front p.front
        ∙ ap (λ i. insert_at i (pair r t) (pairs_in x)) (f ∙ rank-key r t w (pairs_in x) (pairs-words x))
        ∙ include-rank pair_key (pair r t) (pairs_in x) new

pub returns-then-stands_at : goal.returns-then-stands_at
returns-then-stands_at c =
    let x = c.args.self.now in
    record { pairs = sym (include-known pair_key (pair c.args.r.0 (number_of c.args.t)) (pairs_in x) x.rising (stands x _ _ (search rules) _ true c.stands_at.ensures c.if-stands_at.true)) }

pub insert_at-requires : goal.insert_at-requires
insert_at-requires c =
    let x = c.args.self.now in
    let new = stands x _ _ (search rules) _ false c.stands_at.ensures c.if-stands_at.false in
    (place x _ _ (search rules) _ new c.rank-k.ensures, omega (arith, more x _ _ (search rules) _ new c.rank-k.ensures c.requires, x.lengths.0))

pub insert_at-requires-2 : goal.insert_at-requires-2
insert_at-requires-2 c =
    let x = c.args.self.now in
    let new = stands x _ _ (search rules) _ false c.stands_at.ensures c.if-stands_at.false in
    (place x _ _ (search rules) _ new c.rank-k.ensures, omega (arith, more x _ _ (search rules) _ new c.rank-k.ensures c.requires, x.lengths.1))

pub returns : goal.returns
returns c =
    let x = c.args.self.now in
    let new = stands x _ _ (search rules) _ false c.stands_at.ensures c.if-stands_at.false in
    record { pairs = put x _ _ (search rules) _ new c.rank-k.ensures _ _ c.insert_at.ensures c.insert_at-2.ensures }

pub invariant_of-self-clause-rising : goal.invariant_of-self-clause-rising
invariant_of-self-clause-rising c =
    let x = c.args.self.now in
    let new = stands x _ _ (search rules) _ false c.stands_at.ensures c.if-stands_at.false in
    rw (put x _ _ (search rules) _ new c.rank-k.ensures _ _ c.insert_at.ensures c.insert_at-2.ensures) (ascending-include pair_key (pair c.args.r.0 (number_of c.args.t)) (pairs_in x) x.rising)

pub invariant_of-self-clause-words : goal.invariant_of-self-clause-words
invariant_of-self-clause-words c =
    let x = c.args.self.now in
    rw (c.insert_at-2.ensures.front) (every_insert_at (λ t. t < 2 ^ 64) c.rank-k.result (number_of c.args.t) (take x.len x.transactions) (search rules) x.words)
