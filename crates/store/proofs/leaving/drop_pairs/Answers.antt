-- Where nobody is gone nothing is unnamed; else the closure lets the pairs of those stay that are not gone.
use Rattle.std.proofs.Common.{◌≡◌, ◌∙◌, sym, ap, not, take, rules, tests}
use Rattle.lists.specs.Lists.{has, self}
use Rattle.lists.specs.Front.{held}
use Rattle.lists.proofs.Keep.{keep_same}
use Rattle.rules.specs.Index.{Pair}
use Rattle.store.specs.Roster.{keys_of}
use Rattle.store.specs.Fronts.{front_pairs}
use Rattle.store.proofs.Dropping.{nobody, apart, remains, unnamed_keep, gone-among}
use Rattle.store.proofs.Fronts.{kept_by_test}
use Rattle.store.proofs.leaving.drop_pairs.Goals as goal

pub returns-then-gone-eq0 : goal.returns-then-gone-eq0
returns-then-gone-eq0 c =
    let g = c.dropped_from-gone in
    let a = c.args in
    record {
      room = c.requires;
      lengths = (search rules, search rules);
      pairs = nobody (take a.roster.len a.stay) (keys_of a.roster) (front_pairs a.records.now a.transactions.now a.n) g.result.items g.result.len g.ensures c.if-gone-eq0.true;
    }

pub returns : goal.returns
returns c =
    let g = c.dropped_from-gone in
    let a = c.args in
    let ts = held g.result in
    let bs = take a.roster.len a.stay in
    let ks = keys_of a.roster in
    let ps = front_pairs a.records.now a.transactions.now a.n in
    let same : (y : Pair) → apart ts y ≡ remains bs ks y = λ y. ap not (ap (has self y.transaction) g.ensures ∙ sym (gone-among bs ks y.transaction)) in
    let flags = c.flags_of-left.ensures (λ t. not (has self t ts)) (λ t b q. search (rules, tests)) in
    let k = c.retain_pairs.ensures in
    record {
      room = k.room;
      lengths = k.lengths;
      pairs =
          k.pairs
          ∙ kept_by_test a.records.now a.transactions.now a.n (search rules) (search rules) (λ t. not (has self t ts)) _ flags
          ∙ keep_same (apart ts) (remains bs ks) ps (λ y _. same y)
          ∙ sym (unnamed_keep bs ks ps);
    }
