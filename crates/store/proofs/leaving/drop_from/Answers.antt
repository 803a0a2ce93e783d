-- What is left of a rising index of words rises and is of words.
use Rattle.std.proofs.Common.{◌∙◌, sym, subst, take, arith}
use Rattle.lists.specs.Lists.{Every, Ascending}
use Rattle.lists.proofs.Keep.{every_keep}
use Rattle.lists.proofs.Order.{ascending-keep}
use Rattle.rules.specs.Index.{pair_key}
use Rattle.store.specs.Roster.{keys_of}
use Rattle.store.specs.Issuers.{pairs_in}
use Rattle.store.proofs.Dropping.{remains, unnamed_keep}
use Rattle.store.proofs.Keyed.{OfWord, pairs-words}
use Rattle.store.proofs.Fronts.{words_of}
use Rattle.store.proofs.leaving.drop_from.Goals as goal

pub invariant_of-issuers-clause-rising : goal.invariant_of-issuers-clause-rising
invariant_of-issuers-clause-rising c =
    let x = c.args.issuers.now in
    let bs = take c.args.roster.len c.args.stay in
    let ks = keys_of c.args.roster in
    subst (Ascending pair_key) (sym (c.drop_pairs-issuers.ensures.pairs ∙ unnamed_keep bs ks (pairs_in x))) (ascending-keep pair_key (remains bs ks) (pairs_in x) x.rising)

pub invariant_of-issuers-clause-words : goal.invariant_of-issuers-clause-words
invariant_of-issuers-clause-words c =
    let x = c.args.issuers.now in
    let q = c.drop_pairs-issuers.ensures in
    let bs = take c.args.roster.len c.args.stay in
    let ks = keys_of c.args.roster in
    let left = subst (Every OfWord) (sym (q.pairs ∙ unnamed_keep bs ks (pairs_in x))) (every_keep OfWord (remains bs ks) (pairs_in x) (pairs-words x)) in
    words_of _ _ _ (omega (arith, q.room, q.lengths.0)) (omega (arith, q.room, q.lengths.1)) left
