-- Each turn puts in the pair of its edge, if that starts here.
use Rattle.std.proofs.Common.{arith, eq-eqb, ne_eqb}
use Rattle.calls.proofs.Named.{named_none, named-all, named-room, named_one, named_other}
use Rattle.calls.proofs.admission.name_issued.Goals as goal

pub loop-i-init : goal.loop-i-init
loop-i-init c = named_none c.args.issuers.now c.args.e.now c.args.local.0

pub name-requires : goal.name-requires
name-requires c =
    let l = c.loop-i in
    named-room c.args.issuers.now c.args.e.now c.args.local.0 l.issuers l.i c.requires l.invariant (omega arith) c.record_key.result.0 c.record_key.ensures (eq-eqb _ _ c.if-e-i.true)

pub loop-i-preserved-then-e-i : goal.loop-i-preserved-then-e-i
loop-i-preserved-then-e-i c =
    let l = c.loop-i in
    named_one c.args.issuers.now c.args.e.now c.args.local.0 l.issuers l.i c.requires l.invariant (omega arith) c.record_key.result.0 c.record_key.ensures (eq-eqb _ _ c.if-e-i.true) _ c.name.ensures

pub loop-i-preserved : goal.loop-i-preserved
loop-i-preserved c =
    let l = c.loop-i in
    named_other c.args.issuers.now c.args.e.now c.args.local.0 l.issuers l.i c.requires l.invariant (omega arith) (ne_eqb _ _ c.if-e-i.false)

pub returns : goal.returns
returns c =
    let l = c.loop-i in
    named-all c.args.issuers.now c.args.e.now c.args.local.0 l.issuers l.i l.invariant (omega arith)
