-- Each arm makes the call of its kind, and a turn goes on from the one before.
use borrow.Author.Rules.{rules}
use borrow.Author.Tests.{ne_eqb}
use mathlib.Core.Path.{◌≡◌, ◌∙◌}
use mathlib.Core.List.{List}
use lib.ListN.{length}
use Prim.Native.Nat.{ℕ, ◌+◌}
use Rattle.rules.specs.Calls.{step}
use Rattle.ledger.specs.declared.Done.{Done}
use Rattle.ledger.specs.Contents.{contents}
use Rattle.ledger.specs.Meets.{Meets}
use Rattle.dispatch.specs.Changing.{call_of}
use Rattle.dispatch.proofs.Lent.{beside}
use Rattle.dispatch.proofs.Turns.{Going, going_on, begun, ended}
use Rattle.dispatch.proofs.changing.apply.Goals as goal
use Rattle.dispatch.proofs.changing.apply.Goals.{in-1, in-2, in-3, in-4, in-5, in-6, in-7, in-8, in-9, in-10, in-11, in-12, in-14, in_default}

pub loop-i-preserved : goal.loop-i-preserved
unfolding call_of
loop-i-preserved c =
    let call = call_of c.args.kind c.args.words.now (length c.args.lent.now) in
    let same : length c.refill.new.lent ≡ length c.args.lent.now = c.refill.auto.lent ∙ c.loop-i.invariant.same in
    let on : (later : List ℕ) (s : Done) → Meets (step call (contents c.loop-i.ledger)) c.refill.new.lent later s → length later ≡ length c.args.lent.now →
    Going c.args.blank call c.args.ledger.now c.args.lent.now later s (c.loop-i.i + 1) =
    λ later s m e. going_on _ _ _ _ _ _ _ _ _ c.loop-i.i c.loop-i.invariant c.refill.ensures m e in
    -- in-5 and in-6 search for what the call says: edits that exchange the two calls or their words are then refused for that fact, and for no name
    elim c.match-kind.branch [
      | in-1 w ↦ rw (w.ledger-is, w.lent-is, w.said-is) (on _ _ (simp w.in-1.is (beside _ _ _ w.register_committed-said.ensures)) same)
      | in-2 w ↦ rw (w.ledger-is, w.lent-is, w.said-is) (on _ _ (simp (w.in-2.is, ← c.read-tx.ensures, ← c.word_at-b.ensures, ← c.word_at-c.ensures) (beside _ _ _ w.record_absence-said.ensures)) same)
      | in-3 w ↦ rw (w.ledger-is, w.lent-is, w.said-is) (on _ _ (simp (w.in-3.is, ← c.read-tx.ensures, ← c.word_at-b.ensures) (beside _ _ _ w.certify-said.ensures)) same)
      | in-4 w ↦ rw (w.ledger-is, w.lent-is, w.said-is) (on _ _ (simp w.in-4.is (beside _ _ _ w.record_abandonment-said.ensures)) same)
      | in-5 w ↦ rw (w.ledger-is, w.lent-is, w.said-is) (on _ _ (simp (w.in-5.is, ← c.word_at-a.ensures, ← c.read-second.ensures) (beside _ _ _ (search rules))) same)
      | in-6 w ↦ rw (w.ledger-is, w.lent-is, w.said-is) (on _ _ (simp (w.in-6.is, ← c.word_at-a.ensures, ← c.read-second.ensures) (beside _ _ _ (search rules))) same)
      | in-7 w ↦ rw (w.ledger-is, w.lent-is, w.said-is) (on _ _ (simp (w.in-7.is, ← same) w.closes-said.ensures) (w.closes-said.auto.lent ∙ same))
      | in-8 w ↦ rw (w.ledger-is, w.lent-is, w.said-is) (on _ _ (simp (w.in-8.is, ← c.read-tx.ensures) (beside _ _ _ w.fated-said.ensures)) same)
      | in-9 w ↦ rw (w.ledger-is, w.lent-is, w.said-is) (on _ _ (simp w.in-9.is (beside _ _ _ w.release_resolved-said.ensures)) same)
      | in-10 w ↦ rw (w.ledger-is, w.lent-is, w.said-is) (on _ _ (simp (w.in-10.is, ← c.read-tx.ensures) (beside _ _ _ w.forget-said.ensures)) same)
      | in-11 w ↦ rw (w.ledger-is, w.lent-is, w.said-is) (on _ _ (simp (w.in-11.is, ← c.word_at-a.ensures, ← c.word_at-b.ensures, ← c.word_at-c.ensures, ← c.word_at-d.ensures) (beside _ _ _ w.record_terminal-said.ensures)) same)
      | in-12 w ↦ rw (w.ledger-is, w.lent-is, w.said-is) (on _ _ (simp (w.in-12.is, ← c.word_at-a.ensures, ← c.word_at-b.ensures) (beside _ _ _ w.stamp_terminal-said.ensures)) same)
      | in-14 w ↦ rw (w.ledger-is, w.lent-is, w.said-is) (on _ _ (simp w.in-14.is (beside _ _ _ w.bundle-said.ensures)) same)
      | in_default w ↦
          let k = w.in_default.in_default-own.rest in
          rw (w.ledger-is, w.lent-is, w.said-is) (on _ _ (simp (ne_eqb _ _ k.0.0.0.0.0.0.0.0.0.0.0.0.1, ne_eqb _ _ k.0.0.0.0.0.0.0.0.0.0.0.1, ne_eqb _ _ k.0.0.0.0.0.0.0.0.0.0.1, ne_eqb _ _ k.0.0.0.0.0.0.0.0.0.1, ne_eqb _ _ k.0.0.0.0.0.0.0.0.1, ne_eqb _ _ k.0.0.0.0.0.0.0.1, ne_eqb _ _ k.0.0.0.0.0.0.1, ne_eqb _ _ k.0.0.0.0.0.1, ne_eqb _ _ k.0.0.0.0.1, ne_eqb _ _ k.0.0.0.1, ne_eqb _ _ k.0.0.1, ne_eqb _ _ k.0.1, ne_eqb _ _ k.1, ← c.word_at-a.ensures, ← same) w.prune-said.ensures) (w.prune-said.auto.lent ∙ same))
    ]

pub loop-i-init : goal.loop-i-init
loop-i-init c = begun _ _ _ _ c.requires

pub returns : goal.returns
returns c = ended _ _ _ _ _ _ _ c.loop-i.i c.loop-i.invariant c.loop-i-test.false c.loop-i.auto.i-end
