-- The groups' figures, tested place by place, are the groups tested.
use Rattle.std.proofs.Common.{ℕ, Bool, ◌≡◌, ◌+◌, ◌*◌, ◌∙◌, ◌<◌, refl, length, get_or, arith, rules, tests, ap}
use Rattle.std.proofs.lemmas.Iterator.{serves_from_Range, YieldsList-from_range}
use Rattle.std.specs.List.{range_with_len, list_all}
use Rattle.std.proofs.lemmas.Iterator.Search.{all_from_yields_List}
use Rattle.rules.specs.Words.{record_timed, record_groups, timed, groups_at, group_size}
use Rattle.words.specs.Taken.{figures_timed}
use Rattle.lists.proofs.Places.{all_places}
use Rattle.words.proofs.Groups.{groups_length, timed-at, none, recorded}
use Rattle.words.proofs.record.Record.is_timed.Goals as goal

pub all-requires-clause-callable : goal.all-requires-clause-callable
all-requires-clause-callable c =
    let t = recorded c.args.self.words.now c.args.self.formed in
    serves_from_Range (λ x q e. search rules) (λ x h k. search (rules, t.head, t.exact, c.len-n.ensures))

pub returns : goal.returns
unfolding record_timed
returns c =
    let ws = c.args.self.words.now in
    let f = c.args.self.formed in
    let n = c.len-n.result in
    let test : ℕ → Bool = λ i. figures_timed (2 + n + 5 * i) ws in
    let chain : c.all.result ≡ list_all test (range_with_len 0 n) =
    all_from_yields_List test _ _ c.all.result c.all.ensures.ran (YieldsList-from_range 0 n n refl (omega arith)) (λ x b q k. search (rules, tests)) in
    let many = groups_length ws f in
    let size : n ≡ length (record_groups ws) = omega (arith, c.len-n.ensures, many) in
    let here : (j k : ℕ) → j ≡ 0 + k → k < length (record_groups ws) → test j ≡ timed (get_or (record_groups ws) k none) =
    λ j k e h. ap (λ p. figures_timed p ws) (let z : 2 + n + 5 * j ≡ groups_at ws + group_size ws * k = omega (arith, e, c.len-n.ensures) in z) ∙ timed-at ws f k (omega (arith, h, many)) in
    chain ∙ ap (λ m. list_all test (range_with_len 0 m)) size ∙ all_places test timed none (record_groups ws) here
