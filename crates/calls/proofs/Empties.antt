-- An empty ledger is held where its local is a shard and its spans are spans.
-- Assumes nothing.
use Prim.Native.Nat.{ℕ}
use mathlib.Core.Path.{◌≡◌, refl, ◌∙◌}
use mathlib.Core.Bool.{true, false}
use mathlib.Core.List.{[], ◌∷◌}
use Rattle.lists.specs.Lists.{all_of}
use Rattle.rules.specs.Numbers.{is_shard, is_span}
use Rattle.rules.specs.Plain.{empty}
use Rattle.rules.specs.Index.{index}
use Rattle.rules.specs.Outcome.{done}
use Rattle.rules.specs.Calls.{making, making_refusal}
use Rattle.rules.specs.Good.{Good}
use Rattle.rules.proofs.Kept.{making-good}
use Rattle.types.specs.declared.refusal.Refusal.{Refusal}
use Rattle.types.specs.Refusals.{refusal_number}
use Rattle.store.specs.Roster as roster
use Rattle.store.specs.Issuers as issuers
use Rattle.store.specs.Departures as departures
use Rattle.store.specs.Counts as counts
use Rattle.ledger.specs.declared.Ledger.{Ledger}
use Rattle.ledger.specs.Contents.{contents, Held}
use Rattle.ledger.specs.Meets.{Meets, says, says_no}
use Rattle.ledger.proofs.Meeting.{numbered, passes, silent}
use Rattle.calls.specs.Fresh.{Fresh}

-- the parts of an empty ledger make one
pub fresh : (l : Ledger) → roster.Fresh l.roster → issuers.Holds [] l.issuers → departures.Holds [] l.departures →
    counts.Holds [] l.counts → Fresh l.local.0 l.validity l.core_span l.leg_span l
unfolding contents
fresh l r i d n = record { roster = r; issuers = i; departures = d; contents = rw (r, d.file, n.counts) }

fresh_held : (local v c s : ℕ) (l : Ledger) → Fresh local v c s l → Good (empty local v c s) → Held l
unfolding contents index
fresh_held local v c s l f g =
    let none : l.roster.len ≡ 0 = f.roster in
    record {
      keyed = rw none;
      issuers = record { pairs = f.issuers.pairs ∙ rw none };
      good = rw f.contents g;
    }

module _ (local v c s : ℕ) where
  pub made : (l : Ledger) → Fresh local v c s l → making_refusal local v c s ≡ 0 → Meets (making local v c s) [] [] (says 0 l)
  unfolding making
  made l f e =
      passes (making_refusal local v c s) (empty 1 1 1 1) (done [] (empty local v c s)) [] [] (says 0 l) e
      (silent l (empty local v c s) (says 0 l) (record { held = fresh_held local v c s l f (rw e at (making-good local v c s)); holds = f.contents }) refl)

  pub not_made : (r : Refusal) (l : Ledger) → Fresh 1 1 1 1 l → making_refusal local v c s ≡ refusal_number r → Meets (making local v c s) [] [] (says_no r l)
  unfolding making
  not_made r l f e =
      rw (e ∙ (numbered r).1)
      (record { refused = (numbered r).1; answers = refl; ledger = f.contents; wrote = refl; held = fresh_held 1 1 1 1 l f (making-good 1 1 1 1) })

  -- the two lines of the table, and neither
  pub no_shard : is_shard local ≡ false → making_refusal local v c s ≡ 1
  no_shard h = rw h

  pub no_span : is_shard local ≡ true → all_of (is_span v ∷ is_span c ∷ is_span s ∷ []) ≡ false → making_refusal local v c s ≡ 2
  no_span h k = rw (h, k)

  pub all_right : is_shard local ≡ true → all_of (is_span v ∷ is_span c ∷ is_span s ∷ []) ≡ true → making_refusal local v c s ≡ 0
  all_right h k = rw (h, k)
