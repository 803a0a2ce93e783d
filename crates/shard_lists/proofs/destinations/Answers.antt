-- Each turn passes an edge by, or puts its destinations in, which start behind those of the edges before it.
use Rattle.std.proofs.Common.{◌∙◌, sym, ap, length, get_or, refl, arith}
use Rattle.lists.specs.Lists.{part}
use Rattle.lists.proofs.Parts.{length_part}
use Rattle.lists.proofs.Sets.{total-next}
use Rattle.entry.proofs.Shape.{fits_of}
use Rattle.shard_lists.proofs.Gather.{none_yet_lem, passed_by, put_all}
use Rattle.shard_lists.proofs.Crossing.{size_few, claim_in, claim_out, claimed_all}
use Rattle.shard_lists.proofs.destinations.Goals as goal
use Rattle.shard_lists.proofs.destinations.Goals.{then-is_issue, else-is_issue}

pub loop-i-init : goal.loop-i-init
loop-i-init c = (refl, omega arith, none_yet_lem _ _ _ c.new-shards.ensures)

pub part-requires : goal.part-requires
part-requires c =
    let l = c.loop-i in
    let e = c.args.e in
    omega (arith, l.invariant.1, size_few e l.i (omega arith), (fits_of e).to, (fits_of e).edges_len)

pub include_all-requires : goal.include_all-requires
include_all-requires c =
    let l = c.loop-i in
    let e = c.args.e in
    omega (arith, l.invariant.1, l.invariant.2.few, size_few e l.i (omega arith), (fits_of e).edges_len, length_part l.start (get_or e.sizes l.i 0) e.to, ap length c.part.ensures)

pub loop-i-preserved : goal.loop-i-preserved
loop-i-preserved c =
    let l = c.loop-i in
    let e = c.args.e in
    let f = fits_of e in
    let size = get_or e.sizes l.i 0 in
    let few = size_few e l.i (omega arith) in
    let next = total-next e.sizes l.i (omega (arith, f.edges_len, f.sizes)) in
    elim c.if-is_issue.branch [
      | then-is_issue w ↦ rw w.shards-is (
        omega (arith, l.invariant.0, next),
        omega (arith, few),
        put_all (part l.start size e.to) _ _ _ _ (claim_in e c.args.local.0 c.args.r.0 l.i l.start (omega arith) l.invariant.0 (sym c.is_issue.ensures ∙ w.if-is_issue.true))
            (omega (arith, few, length_part l.start size e.to)) l.invariant.2 (rw w.part.ensures at w.include_all.ensures),
      )
      | else-is_issue w ↦ rw w.shards-is (
        omega (arith, l.invariant.0, next),
        omega (arith, few),
        passed_by _ _ _ (claim_out e c.args.local.0 c.args.r.0 l.i (omega arith) (sym c.is_issue.ensures ∙ w.if-is_issue.false)) (omega arith) l.invariant.2,
      )
    ]

pub returns : goal.returns
returns c =
    let l = c.loop-i in
    claimed_all c.args.e c.args.local.0 c.args.r.0 l.i (omega arith) l.invariant.2
