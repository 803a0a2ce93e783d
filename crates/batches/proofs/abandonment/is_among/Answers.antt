-- The groups' transactions, compared place by place, are the first n of them.
use Rattle.std.proofs.Common.{ℕ, Bool, ◌≡◌, ◌+◌, ◌*◌, ◌<◌, ◌∙◌, refl, sym, length, take, get_or, eqb, arith, rules, tests, ap}
use Rattle.std.proofs.Math.Seq.{length-take-le, get_or-take}
use Rattle.std.proofs.lemmas.Iterator.{serves_from_Range, YieldsList-from_range}
use Rattle.std.specs.List.{range_with_len, list_any}
use Rattle.std.proofs.lemmas.Iterator.Search.{any_from_yields_List}
use Rattle.lists.specs.Lists.{at, self}
use Rattle.lists.proofs.Places.{any_places}
use Rattle.rules.specs.Words.{transaction_at, groups_at, group_size}
use Rattle.types.specs.Transactions.{number_of}
use Rattle.batches.specs.Abandoned.{transactions}
use Rattle.batches.proofs.Counting.{transactions-length, transaction-at}
use Rattle.batches.proofs.abandonment.is_among.Goals as goal

pub any-requires-clause-callable : goal.any-requires-clause-callable
any-requires-clause-callable c = serves_from_Range (λ x q e. search rules) (λ x h k. search (rules, c.requires))

pub returns : goal.returns
returns c =
    let r = c.args.groups in
    let ws = r.words.now in
    let n = c.args.n in
    let ts = take n (transactions ws) in
    let many = transactions-length ws r.formed in
    let size : length ts ≡ n = length-take-le n (transactions ws) (omega (arith, c.requires, many)) in
    let test : ℕ → Bool = λ i. eqb (transaction_at (groups_at ws + group_size ws * i) ws) (number_of c.args.tx) in
    let chain : c.any.result ≡ list_any test (range_with_len 0 n) =
    any_from_yields_List test _ _ c.any.result c.any.ensures.ran (YieldsList-from_range 0 n n refl (omega arith)) (λ x b q k. search (rules, tests)) in
    let here : (j k : ℕ) → j ≡ 0 + k → k < length ts → test j ≡ at self (number_of c.args.tx) (get_or ts k 0) =
    λ j k e h.
    ap test (let z : j ≡ k = omega arith in z)
    ∙ ap (λ x. eqb x (number_of c.args.tx)) (transaction-at ws r.formed k (omega (arith, h, size, c.requires)) ∙ sym (get_or-take n (transactions ws) k 0 (omega (arith, h, size)))) in
    chain ∙ ap (λ m. list_any test (range_with_len 0 m)) (sym size) ∙ any_places test (at self (number_of c.args.tx)) 0 ts here
