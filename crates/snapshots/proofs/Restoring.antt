-- Restoring: what each refusal and each ledger is, from what the making and the filling said.
-- Assumes nothing.
use Prim.Native.Nat.{ℕ, suc}
use mathlib.Core.Path.{◌≡◌, refl, sym, ap, ◌∙◌}
use mathlib.Core.Bool.{Bool, true, false, not, ◌&&◌, true≢false}
use mathlib.Core.List.{List, [], ◌∷◌}
use native.Mathlib.Omega.{arith}
use Rattle.std.specs.Prelude.{Result, Ok, Err, is_err}
use Rattle.lists.specs.Lists.{all, all_of, ascending}
use Rattle.lists.proofs.Tests.{and_false}
use Rattle.rules.specs.Numbers.{is_shard, is_span}
use Rattle.rules.specs.Plain.{Plain, transaction_of, shard_of, counted_shard, empty}
use Rattle.rules.specs.Words.{word}
use Rattle.rules.specs.Outcome.{Outcome, done, unless, ◌gives◌then◌}
use Rattle.rules.specs.Calls.{not_made, making}
use Rattle.rules.specs.Snapshot.{count_parts, entry_parts, departure_parts, count_sound, entry_sound, departure_sound, snapshot_formed, snapshot_sound, ledger_in, restoring}
use Rattle.types.specs.declared.refusal.Refusal.{Refusal}
use Rattle.types.specs.declared.refusal.Refusal.TheVariants.{NoSnapshot, NeverWritten}
use Rattle.types.specs.Refusals.{refusal_number, refused_in}
use Rattle.ledger.specs.declared.Ledger.{Ledger}
use Rattle.ledger.specs.declared.Done.{Done}
use Rattle.ledger.specs.Meets.{Meets, three_of, answers_in, saying, says_no}
use Rattle.ledger.proofs.Meeting.{numbered}
use Rattle.snapshots.specs.Restore.{whole_sound, Made, Fills, Refused}

-- the tests of the whole in the order in which they are made
reordered : (a b c d e f g h i j : Bool) → all_of (a ∷ b ∷ c ∷ d ∷ e ∷ f ∷ g ∷ h ∷ i ∷ j ∷ []) ≡ a && all_of (b ∷ c ∷ d ∷ []) && ((e && f) && ((i && j) && (g && h)))
reordered false b c d e f g h i j = refl
reordered true false c d e f g h i j = refl
reordered true true false d e f g h i j = refl
reordered true true true false e f g h i j = refl
reordered true true true true false f g h i j = refl
reordered true true true true true false g h i j = refl
reordered true true true true true true false h i j = sym (and_false (i && j))
reordered true true true true true true true false i j = sym (and_false (i && j))
reordered true true true true true true true true false j = refl
reordered true true true true true true true true true j = refl

-- what is said by a result
said_no : {A : Type 0} (s : Result A Refusal) → is_err s ≡ true → (k : ℕ) × (refused_in s ≡ suc k)
said_no (Ok x) h = absurd (true≢false (sym h))
said_no (Err r) h = numbered r

said_yes : {A : Type 0} (s : Result A Refusal) → is_err s ≡ false → refused_in s ≡ 0
said_yes (Ok x) h = refl
said_yes (Err r) h = absurd (true≢false h)

-- a making that is refused, and one that is not
unmade : (a b : Bool) (p q : Plain) (k : ℕ) → (unless (not a gives 1 then not b gives 2 then 0) p (done [] q)).refused ≡ suc k → a && b ≡ false
unmade false b p q k e = refl
unmade true false p q k e = refl
unmade true true p q k e = absurd (omega arith)

made : (a b : Bool) (p q : Plain) → (unless (not a gives 1 then not b gives 2 then 0) p (done [] q)).refused ≡ 0 → (a && b ≡ true) × (unless (not a gives 1 then not b gives 2 then 0) p (done [] q) ≡ done [] q)
made false b p q e = absurd (omega arith)
made true false p q e = absurd (omega arith)
made true true p q e = (refl, refl)

pub refused-made : (refusal : Refusal) (r : Done) → Meets (making 0 0 0 0) [] [] r → Refused refusal (says_no refusal r.ledger)
unfolding making
refused-made refusal r m = record { said = refl; became = record { held = m.held; holds = m.ledger } }

module _ (ws : List ℕ) where
  abbrev framed : Bool
  framed = is_shard (word 0 ws) && all_of (is_span (word 1 ws) ∷ is_span (word 2 ws) ∷ is_span (word 3 ws) ∷ [])

  abbrev rest : Bool
  rest = whole_sound ws

  in_order : snapshot_sound ws ≡ framed && rest
  unfolding snapshot_sound ledger_in
  in_order =
      reordered (is_shard (word 0 ws)) (is_span (word 1 ws)) (is_span (word 2 ws)) (is_span (word 3 ws))
      (all count_sound (count_parts ws)) (ascending counted_shard (ledger_in ws).counts)
      (all (entry_sound (word 0 ws)) (entry_parts ws)) (ascending transaction_of (ledger_in ws).entries)
      (all departure_sound (departure_parts ws)) (ascending shard_of (ledger_in ws).departures)

  -- a refusal with the ledger of a refused making
  turned_away : (refusal : Refusal) (r : Done) → Refused refusal r → restoring ws ≡ unless (refusal_number refusal) not_made (done [] not_made) → Meets (restoring ws) [] [] r
  turned_away refusal r f e =
      rw (e ∙ ap (λ n. unless n not_made (done [] not_made)) (numbered refusal).1)
      (record {
        refused = ap refused_in f.said ∙ (numbered refusal).1;
        answers = ap answers_in f.said;
        ledger = f.became.holds;
        wrote = refl;
        held = f.became.held;
      })

  pub not_formed : snapshot_formed ws ≡ false → (r : Done) → Refused NoSnapshot r → Meets (restoring ws) [] [] r
  unfolding restoring
  not_formed h r f = turned_away NoSnapshot r f (rw h)

  unsound : snapshot_formed ws ≡ true → snapshot_sound ws ≡ false → (r : Done) → Refused NeverWritten r → Meets (restoring ws) [] [] r
  unfolding restoring
  unsound g h r f = turned_away NeverWritten r f (rw (g, h))

  module _ (g : snapshot_formed ws ≡ true) (d : Done) (m : Meets (making (word 0 ws) (word 1 ws) (word 2 ws) (word 3 ws)) [] [] d) where
    abbrev spans : Bool
    spans = all_of (is_span (word 1 ws) ∷ is_span (word 2 ws) ∷ is_span (word 3 ws) ∷ [])

    abbrev fresh : Plain
    fresh = empty (word 0 ws) (word 1 ws) (word 2 ws) (word 3 ws)

    pub not_framed : is_err d.said ≡ true → (r : Done) → Refused NeverWritten r → Meets (restoring ws) [] [] r
    unfolding making
    not_framed e r f =
        let n = said_no d.said e in
        let none : framed ≡ false = unmade (is_shard (word 0 ws)) spans not_made fresh n.0 (sym m.refused ∙ n.1) in
        unsound g (in_order ∙ ap (λ b. b && rest) none) r f

    module _ (e : is_err d.said ≡ false) where
      yes : (framed ≡ true) × (making (word 0 ws) (word 1 ws) (word 2 ws) (word 3 ws) ≡ done [] fresh)
      unfolding making
      yes = made (is_shard (word 0 ws)) spans not_made fresh (sym m.refused ∙ said_yes d.said e)

      pub is_made : Made ws d.ledger
      is_made = record { formed = g; made = record { held = m.held; holds = m.ledger ∙ ap (λ (o : Outcome). o.ledger) yes.1 } }

      module _ (l : Ledger) (b : Bool) (f : Fills ws l b) where
        whole : snapshot_sound ws ≡ b
        whole = in_order ∙ ap (λ c. c && rest) yes.0 ∙ sym f.said

        pub not_filled : b ≡ false → (r : Done) → Refused NeverWritten r → Meets (restoring ws) [] [] r
        not_filled q r h = unsound g (whole ∙ q) r h

        pub is_filled : b ≡ true → Meets (restoring ws) [] [] (saying d.said l)
        unfolding restoring
        is_filled q =
            let k = f.became q in
            rw (g, whole ∙ q)
            (record {
              refused = said_yes d.said e;
              answers = m.answers ∙ ap (λ (o : Outcome). three_of o.answers) yes.1;
              ledger = k.holds;
              wrote = refl;
              held = k.held;
            })
