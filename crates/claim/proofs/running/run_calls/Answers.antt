-- A turn takes the next call, and what the rest gives from there is what the whole gives.
use Rattle.std.proofs.Common.{◌≡◌, ◌∙◌, ap, ap₂, ◌+◌, ◌-◌, arith, length}
use Prim.Native.Nat.{min}
use lib.ListN.{drop, take, length-take}
use Rattle.lists.proofs.Cuts.{rest-none}
use Rattle.rules.specs.Words.{word}
use Rattle.rules.specs.Calls.{step, run}
use Rattle.ledger.specs.Contents.{contents}
use Rattle.dispatch.specs.Changing.{call_of}
use Rattle.claim.specs.Calls.{decode, lent_after}
use Rattle.claim.proofs.Decoding.{decode-next}
use Rattle.claim.proofs.Writing.{lent-front}
use Rattle.claim.proofs.running.run_calls.Goals as goal

pub loop-at-preserved : goal.loop-at-preserved
loop-at-preserved c =
    let l = c.loop-at in
    let ws = c.args.calls.now in
    let limit = length c.args.lent.now in
    let room = c.at_most-room.result in
    let from = c.at_most-from.result in
    let end = from + c.at_most.result in
    let counted : c.at_most.result ≡ min (word (l.at + 2) ws) (length ws - from) = c.at_most.ensures ∙ rw c.word_at-count.ensures in
    let lent-on : length (take room l.lent) ≡ min (word (l.at + 1) ws) limit =
    simp length-take (omega (arith, c.at_most-room.ensures, c.word_at.ensures, l.auto.lent)) in
    let next = decode-next limit ws l.at from end (omega arith) c.at_most-from.ensures (ap (λ k. from + k) counted) in
    let did = simp (c.word_at-kind.ensures, lent-on) at c.apply-said.ensures in
    let call = call_of (word l.at ws) (take (end - from) (drop from ws)) (min (word (l.at + 1) ws) limit) in
    let last = c.apply-said.new.lent in
    let rest = decode limit (drop end ws) in (
      omega arith,
      did.held,
      ap (run rest) did.ledger ∙ (rw next at l.invariant.2),
      ap₂ (lent_after rest) did.ledger (lent-front (step call (contents l.ledger)).words l.lent last room did.wrote c.apply-said.auto.lent) ∙ (rw next at l.invariant.3),
    )

pub returns : goal.returns
returns c =
    let l = c.loop-at in
    let end = rest-none c.args.calls.now l.at (omega arith) in
    record { held = l.invariant.1; ledger = rw end at l.invariant.2; wrote = rw end at l.invariant.3 }
