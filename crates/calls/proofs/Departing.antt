-- Terminal and stamp: the departures on file changed, all else as it was.
-- Assumes nothing.
use Prim.Native.Nat.{ℕ, suc, ◌≤◌}
use mathlib.Core.Path.{◌≡◌, refl, sym, ap, ◌∙◌}
use mathlib.Core.Bool.{Bool, true, false, cond, not, ◌&&◌, ◌||◌, true≢false}
use mathlib.Core.List.{List, []}
use native.Mathlib.Omega.{arith}
use lib.Dec.{eqb, ltb, leb}
use lib.ListN.{length}
use borrow.Author.Tests.{lt-ltb, lt-leb, ltb-true, leb-false, not-true}
use Rattle.std.specs.Prelude.{Option, Some, None, is_some}
use Rattle.lists.specs.Arrays.{place}
use Rattle.lists.proofs.Loops.{located, missing}
use Rattle.lists.proofs.Tests.{same_test}
use Rattle.lists.specs.Lists.{at, has, change}
use Rattle.lists.proofs.Keep.{length-change_if}
use Rattle.rules.specs.Numbers.{is_time, is_shard}
use Rattle.rules.specs.Plain as plain
use Rattle.rules.specs.Plain.{shard_of, with_departures}
use Rattle.rules.specs.Outcome.{done, ◌gives◌then◌}
use Rattle.rules.specs.Calls.{terminal, stamp, stamped, departed, terminal_refusal, after_terminal, stamp_refusal, after_stamp}
use Rattle.rules.specs.Good.{Good}
use Rattle.rules.proofs.Kept.{step-good}
use Rattle.types.specs.declared.refusal.Refusal.{Refusal}
use Rattle.types.specs.declared.refusal.Refusal.TheVariants.{DeparturesFull}
use Rattle.types.specs.Refusals.{refusal_number}
use Rattle.store.specs.declared.departures.Departures.{Departures}
use Rattle.store.specs.Departures as departures
use Rattle.store.specs.Departures.{on_file}
use Rattle.ledger.specs.declared.Ledger.{Ledger}
use Rattle.ledger.specs.Contents.{contents, Held, with_parts}
use Rattle.ledger.specs.Meets.{Meets, says, says_no}
use Rattle.ledger.proofs.Lift.{filed}
use Rattle.ledger.proofs.Meeting.{numbered, refuses, passes, silent, good-after}
use Rattle.types.specs.declared.Time.{Time}
use Rattle.calls.specs.Terminals.{is_until, words_refusal, filed_as, filed_with, stamp_in}

module _ (l : Ledger) (h : Held l) (shard : ℕ) where
  -- Stamp.
  module _ (until : ℕ) where
    pub stamp-refused : (r : Refusal) → refusal_number r ≡ stamp_refusal shard until → Meets (after_stamp shard until (contents l)) [] [] (says_no r l)
    unfolding after_stamp
    stamp-refused r e = refuses r l [] (stamp_refusal shard until) _ h (sym e)

    pub stamp-known : stamp_refusal shard until ≡ 0 → (x : Departures) → departures.Holds (change shard_of shard (stamped until) (on_file l.departures)) x →
        (z : length l.entries ≡ 48) → Meets (after_stamp shard until (contents l)) [] [] (says 0 (with_parts l l.counts l.roster l.entries l.issuers x z))
    unfolding after_stamp contents
    stamp-known none x f z =
        let o = done [] (with_departures (change shard_of shard (stamped until) (contents l).departures) (contents l)) in
        passes (stamp_refusal shard until) (contents l) o [] [] (says 0 (with_parts l l.counts l.roster l.entries l.issuers x z)) none
        (silent (with_parts l l.counts l.roster l.entries l.issuers x z) _ _ (filed l h _ x f (good-after (stamp_refusal shard until) (contents l) o none (step-good (stamp shard until) tt (contents l) h.good)) z) refl)

  -- Terminal.
  module _ (cut is_stamped until : ℕ) where
    abbrev full : Bool
    full = not (has shard_of shard (contents l).departures) && leb 32 (length (contents l).departures)

    -- the words' lines of the table come first
    first_lines : (n : ℕ) → words_refusal shard cut is_stamped until ≡ suc n → terminal_refusal shard cut is_stamped until (contents l) ≡ suc n
    unfolding words_refusal
    first_lines n e = go (ltb 1 is_stamped) (not (is_time cut && is_until is_stamped until)) (not (is_shard shard)) full e
      where
        go : (a b c d : Bool) → (a gives 5 then b gives 3 then c gives 4 then 0) ≡ suc n → (a gives 5 then b gives 3 then c gives 4 then d gives 8 then 0) ≡ suc n
        go true b c d q = q
        go false true c d q = q
        go false false true d q = q
        go false false false d q = absurd (omega arith)

    last_line : words_refusal shard cut is_stamped until ≡ 0 → terminal_refusal shard cut is_stamped until (contents l) ≡ (full gives 8 then 0)
    unfolding words_refusal
    last_line e = go (ltb 1 is_stamped) (not (is_time cut && is_until is_stamped until)) (not (is_shard shard)) full e
      where
        go : (a b c d : Bool) → (a gives 5 then b gives 3 then c gives 4 then 0) ≡ 0 → (a gives 5 then b gives 3 then c gives 4 then d gives 8 then 0) ≡ (d gives 8 then 0)
        go true b c d q = absurd (omega arith)
        go false true c d q = absurd (omega arith)
        go false false true d q = absurd (omega arith)
        go false false false d q = refl

    pub terminal-refused : (r : Refusal) → refusal_number r ≡ words_refusal shard cut is_stamped until → Meets (after_terminal shard cut is_stamped until (contents l)) [] [] (says_no r l)
    unfolding after_terminal
    terminal-refused r e =
        let n = numbered r in
        refuses r l [] (terminal_refusal shard cut is_stamped until (contents l)) _ h (first_lines n.0 (sym e ∙ n.1) ∙ sym n.1)

    -- whether there is room is the other way round
    room_full : (b : Bool) → has shard_of shard (contents l).departures || not (leb 32 (length (contents l).departures)) ≡ b → full ≡ not b
    room_full b e = go (has shard_of shard (contents l).departures) (leb 32 (length (contents l).departures)) e
      where
        go : (k m : Bool) → k || not m ≡ b → not k && m ≡ not b
        go true m q = ap not q
        go false true q = ap not q
        go false false q = ap not q

    pub terminal_full : 0 ≡ words_refusal shard cut is_stamped until → has shard_of shard (contents l).departures || not (leb 32 (length (contents l).departures)) ≡ false →
        Meets (after_terminal shard cut is_stamped until (contents l)) [] [] (says_no DeparturesFull l)
    unfolding after_terminal
    terminal_full e q =
        refuses DeparturesFull l [] (terminal_refusal shard cut is_stamped until (contents l)) _ h (last_line (sym e) ∙ rw (room_full false q))

    module _ (e : 0 ≡ words_refusal shard cut is_stamped until) (q : has shard_of shard (contents l).departures || not (leb 32 (length (contents l).departures)) ≡ true) where
      none : terminal_refusal shard cut is_stamped until (contents l) ≡ 0
      none = last_line (sym e) ∙ rw (room_full true q)

      good : Good (with_departures (cond (eqb is_stamped 0) (departed shard cut (contents l).departures) (change shard_of shard (stamped until) (departed shard cut (contents l).departures))) (contents l))
      unfolding after_terminal
      good =
          good-after (terminal_refusal shard cut is_stamped until (contents l)) (contents l) (done [] _) none
          (step-good (terminal shard cut is_stamped until) tt (contents l) h.good)

      pub room : departures.room_for l.departures shard cut
      unfolding contents
      room = go (eqb is_stamped 0) good
        where
          go : (b : Bool) → Good (with_departures (cond b (departed shard cut (contents l).departures) (change shard_of shard (stamped until) (departed shard cut (contents l).departures))) (contents l)) →
              length (departed shard cut (contents l).departures) ≤ 32
          go true g = g.departures.count
          go false g = omega (arith, g.departures.count, length-change_if (at shard_of shard) (stamped until) (departed shard cut (contents l).departures))

      pub terminal_filed : (x : Departures) → departures.Holds (filed_as shard cut is_stamped until (on_file l.departures)) x →
          (z : length l.entries ≡ 48) → Meets (after_terminal shard cut is_stamped until (contents l)) [] [] (says 0 (with_parts l l.counts l.roster l.entries l.issuers x z))
      unfolding after_terminal contents
      terminal_filed x f z =
          passes (terminal_refusal shard cut is_stamped until (contents l)) (contents l) (done [] _) [] [] (says 0 (with_parts l l.counts l.roster l.entries l.issuers x z)) none
          (silent (with_parts l l.counts l.roster l.entries l.issuers x z) _ _ (filed l h _ x f good z) refl)

-- what is filed by the stamp is filed by the words that say it
pub filed-words : (shard cut is_stamped : ℕ) (until : Time) (ds : List plain.Departure) → filed_with shard cut (stamp_in is_stamped until) ds ≡ filed_as shard cut is_stamped until.0 ds
filed-words shard cut is_stamped until ds = go (eqb is_stamped 0)
  where
    go : (b : Bool) → filed_with shard cut (cond b None (Some until)) ds ≡ cond b (departed shard cut ds) (change shard_of shard (stamped until.0) (departed shard cut ds))
    go true = refl
    go false = refl

-- room: the shard stands, or fewer than 32 do
pub room-known : (n : ℕ) (k : Bool) → k ≡ true → true ≡ k || not (leb 32 n)
room-known n k h = rw h

pub room_new : (n m : ℕ) (k : Bool) → k ≡ false → m ≡ n → ltb n 32 ≡ k || not (leb 32 m)
room_new n m k h e = rw (h, e) (same_test (ltb n 32) (not (leb 32 n)) (λ t. ap not (lt-leb 32 n (ltb-true n 32 t))) (λ t. lt-ltb n 32 (leb-false 32 n (not-true (leb 32 n) t))))

-- what the search for the shard says
pub stands_by : (l : List plain.Departure) (shard : ℕ) (f : Option ℕ) → f ≡ place (at shard_of shard) 0 l → is_some f ≡ true → has shard_of shard l ≡ true
stands_by l shard None e h = absurd (true≢false (sym h))
stands_by l shard (Some k) e h = (located shard_of shard l k (sym e)).known

pub lacks_by : (l : List plain.Departure) (shard : ℕ) (f : Option ℕ) → f ≡ place (at shard_of shard) 0 l → is_some f ≡ false → has shard_of shard l ≡ false
lacks_by l shard None e h = (missing shard_of shard l (sym e)).known
lacks_by l shard (Some k) e h = absurd (true≢false h)
