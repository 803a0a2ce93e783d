-- The pair stands in a rising index only at its rank.
use Rattle.std.proofs.Common.{ℕ, ◌≡◌, ◌∙◌, refl, sym, drop, arith, rules, le-ltb}
use Rattle.lists.specs.Arrays.{leads, rank}
use Rattle.rules.specs.Index.{pair_key, names}
use Rattle.types.specs.Transactions.{number_of}
use Rattle.store.specs.Issuers.{pair, pairs_in, is_pair, is_before}
use Rattle.store.specs.declared.issuers.Issuers.{Issuers}
use Rattle.store.proofs.Pairs.{pairs-length, pairs-told}
use Rattle.store.proofs.Keyed.{Word, pairs-words, names-rank, leads-pair, leads-none}
use Rattle.store.proofs.issuers.Issuers.stands_at.Goals as goal

-- what stands at the rank tells whether the pair stands
at : (x : Issuers) (r t k : ℕ) → Word t → k ≡ rank (is_before r t) (pairs_in x) → names (pairs_in x) r t ≡ leads pair_key (pair_key (pair r t)) (drop k (pairs_in x))
at x r t k w h = rw h (names-rank r t w (pairs_in x) (pairs-words x) x.rising)

pub returns-then-k-self : goal.returns-then-k-self
returns-then-k-self c =
    let x = c.args.self.now in
    let r = c.args.r.0 in
    let t = number_of c.args.t in
    let w : Word t = search rules in
    let here = pairs-told x (is_pair r t) c.args.k _ _ (omega arith) c.is_pair.ensures refl in
    sym (at x r t c.args.k w c.requires ∙ leads-pair r t w (pairs_in x) (pairs-words x) c.args.k (omega (arith, pairs-length x)) ∙ here)

pub returns-else-k-self : goal.returns-else-k-self
returns-else-k-self c =
    let x = c.args.self.now in
    let r = c.args.r.0 in
    let t = number_of c.args.t in
    let w : Word t = search rules in
    le-ltb _ _ c.if-k-self.false ∙ sym (at x r t c.args.k w c.requires ∙ leads-none r t w (pairs_in x) (pairs-words x) c.args.k (omega (arith, pairs-length x)))
