-- What prune decides of each entry and each departure, by place in the roster and on file.
use Rattle.std.specs.Prelude.{ℕ, ◌*◌, ◌≡◌, Bool, true, false, not, ◌||◌, List, map, ltb, length, take, replicate}
use Rattle.lists.specs.Lists.{concat_map, zip_by}
use Rattle.rules.specs.Widths.{report_size, report_room}
use Rattle.rules.specs.Numbers.{is_time}
use Rattle.rules.specs.Plain.{Entry, Departure}
use Rattle.rules.specs.Prune.{stands, survivors, fallen, reports, report_words, holds, remains}
use Rattle.rules.specs.Outcome.{◌gives◌then◌}
use Rattle.store.specs.Departures.{on_file}
use Rattle.judge.specs.View.{Shows}
use Rattle.judge.specs.declared.views.View.{View}
use Rattle.ledger.specs.declared.Ledger.{Ledger}
use Rattle.ledger.specs.Contents.{entries_of, contents}
use Rattle.sweeps.specs.declared.prune.Pruning.{Pruning}

-- a departure's flag, up also if the entry holds it
abbrev pub or_holds : ℕ → Entry → Bool → Departure → Bool
or_holds local e b d = b || holds local d e

-- nothing judged yet
abbrev pub begun : Pruning
begun = record { stay = replicate 48 false; needed = replicate 32 false; some_unneeded = true; words = replicate report_room 0; reports = 0; fallen = 0 }

-- who stays, which departures remain, the words of the reports, how many reports and how many fall
pub record Judges (l : Ledger) (now : ℕ) (r : Pruning) : Type 0 where
  pub stay : take l.roster.len r.stay ≡ map (stands (contents l) now) (entries_of l)
  pub needed : take l.departures.front.len r.needed ≡ map (remains l.local.0 (survivors now (contents l))) (on_file l.departures)
  pub words : take (report_size * r.reports) r.words ≡ concat_map report_words (reports now (contents l))
  pub count : r.reports ≡ length (reports now (contents l))
  pub fallen : r.fallen ≡ length (fallen now (contents l))

-- the number by which a prune with so many reports is turned away, 0 for none
abbrev pub refusal_by : ℕ → ℕ → ℕ → ℕ
refusal_by now reports room = not (is_time now) gives 3 then ltb room (report_size * reports) gives 9 then 0

-- the flags of the departures that a view shows, up also for those that the entry needs
abbrev pub Needed : ℕ → Entry → View → (before after : List Bool) → Type 0
Needed local e v before after =
    (ds : List Departure) (now : ℕ) → Shows ds now v → take v.seen.len after ≡ zip_by (or_holds local e) (take v.seen.len before) ds
