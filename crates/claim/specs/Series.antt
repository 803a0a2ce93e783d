-- Prunes at each clock in turn: what they leave, what they write one after the other, and how many each of them wrote and felled.
use Rattle.std.specs.Prelude.{ℕ, ◌+◌, ◌≡◌, Bool, true, ◌&&◌, List, [], ◌∷◌, ◌++◌, map, leb, length, take}
use Rattle.lists.specs.Lists.{concat_map}
use Rattle.rules.specs.Widths.{report_room}
use Rattle.rules.specs.Numbers.{is_time}
use Rattle.rules.specs.Plain.{Plain}
use Rattle.rules.specs.Prune.{Report, report_words, fallen, reports, pruned, prunes, all_reports, all_fallen}
use Rattle.rules.specs.Calls.{Call, prune, step, run}
use Rattle.ledger.specs.Contents.{contents, Held}
use Rattle.ledger.specs.Meets.{written}
use Rattle.claim.specs.declared.series.PrunedAll.{PrunedAll}

-- clocks that are times, none before the one that it follows
abbrev pub steady : ℕ → List ℕ → Bool
steady t [] = true
steady t (u ∷ us) = leb t u && is_time u && steady u us

-- clock by clock how many reports the prune wrote and how many it felled
abbrev pub all_counts : List ℕ → Plain → List ℕ
all_counts [] p = []
all_counts (t ∷ ts) p = length (reports t p) ∷ length (fallen t p) ∷ all_counts ts (pruned t p)

-- what such numbers add up to: those that stand first in their pairs, and those that stand second
abbrev pub firsts_of : List ℕ → ℕ
firsts_of [] = 0
firsts_of (w ∷ []) = w
firsts_of (w ∷ f ∷ ws) = w + firsts_of ws

abbrev pub seconds_of : List ℕ → ℕ
seconds_of [] = 0
seconds_of (w ∷ []) = 0
seconds_of (w ∷ f ∷ ws) = f + seconds_of ws

-- a list of words read as reports, three words each
abbrev pub reports_in : List ℕ → List Report
reports_in [] = []
reports_in (t ∷ []) = []
reports_in (t ∷ c ∷ []) = []
reports_in (t ∷ c ∷ x ∷ ws) = record { transaction = t; covered = c; charge = x } ∷ reports_in ws

-- the prunes as calls, each of which is lent room for the reports of 48 entries
abbrev pub prune_calls : List ℕ → List Call
prune_calls clocks = map (λ t. prune t report_room) clocks

-- what calls write and answer, one after the other
abbrev pub all_words : List Call → Plain → List ℕ
all_words [] p = []
all_words (c ∷ cs) p = (step c p).words ++ all_words cs (step c p).ledger

abbrev pub all_answers : List Call → Plain → List ℕ
all_answers [] p = []
all_answers (c ∷ cs) p = (step c p).answers ++ all_answers cs (step c p).ledger

-- prunes at each clock in turn are such calls, and none of them is refused
pub record AsCalls (clocks : List ℕ) (p : Plain) : Type 0 where
  pub ledger : run (prune_calls clocks) p ≡ prunes clocks p
  pub words : all_words (prune_calls clocks) p ≡ concat_map report_words (all_reports clocks p)
  pub answers : all_answers (prune_calls clocks) p ≡ all_counts clocks p

-- What prunes at each clock in turn hand back and leave in their two lists: the ledger after the first k and the one after the last, the
-- reports one prune's after the other's, and the numbers of each single prune. Both lists keep their words beyond that.
pub record Series (k : ℕ) (clocks : List ℕ) (p : Plain) (lent list lent_counts counts : List ℕ) (r : PrunedAll) : Type 0 where
  pub held : Held r.after
  pub left : contents r.after ≡ prunes clocks p
  pub held_between : Held r.between
  pub left_between : contents r.between ≡ prunes (take k clocks) p
  pub told : list ≡ written (concat_map report_words (all_reports clocks p)) lent
  pub counted : counts ≡ written (all_counts clocks p) lent_counts
  pub gone : r.fallen ≡ all_fallen clocks p
  pub many : r.written ≡ length (all_reports clocks p)
