-- The figures and the routes stand where the definition says; there are few groups, so that the places fit.
use Rattle.std.proofs.Common.{◌+◌, ◌*◌, ap, ◌∙◌, arith, length, take, drop}
use Rattle.lists.proofs.Parts.{length_part}
use Rattle.rules.specs.Plain.{whole}
use Rattle.words.proofs.Groups.{recorded, reach-within, reach-size}
use Rattle.words.proofs.Built.{bare_as}
use Rattle.words.proofs.record.Record.group.Goals as goal

pub part-routes-requires : goal.part-routes-requires
part-routes-requires c =
    let r = c.args.self in
    omega (arith, c.reach_at-m.ensures, reach-within r.words.now r.formed c.args.i c.args.at c.requires.0 c.requires.1)

pub bare-requires : goal.bare-requires
bare-requires c =
    let r = c.args.self in
    let w = r.words.now in (
      omega (arith, c.len-n.ensures, (recorded w r.formed).exact, c.requires.0),
      omega (arith, ap length c.part-routes.ensures, length_part c.args.at c.reach_at-m.result w, c.reach_at-m.ensures, reach-size w r.formed c.args.i c.requires.0),
    )

pub returns : goal.returns
returns c =
    let w = c.args.self.words.now in
    bare_as whole _ _ w _ _ 2 _ _ c.bare.result c.bare.ensures
    (ap (λ k. 2 + k + 5 * c.args.i) c.len-n.ensures) (c.part-routes.ensures ∙ ap (λ k. take k (drop c.args.at w)) c.reach_at-m.ensures) c.shard.ensures
