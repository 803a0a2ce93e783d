-- What a line of a finalization does with the entry that it names, and by what.
use Rattle.std.specs.Prelude.{ℕ, Bool, cond, not, ◌&&◌, List, eqb, leb}
use Rattle.std.proofs.Math.Option.{Option, none, some}
use Rattle.lists.specs.Lists.{has, self}
use Rattle.rules.specs.Entries as rules
use Rattle.rules.specs.Entries.{skip, resolve, release}
use Rattle.rules.specs.Plain.{Entry, is_core, is_settling, owes}
use Rattle.rules.specs.Words.{Line}
use Rattle.batches.specs.declared.finalization.Ruling.{Ruling}
use Rattle.batches.specs.declared.finalization.Ruling.TheVariants.{Skip, Resolve, Release, Refused}

-- what each case is among the paper's rulings; a refusal is none of them
abbrev pub plain_ruling : Ruling → Option rules.Ruling
plain_ruling Skip = some skip
plain_ruling Resolve = some resolve
plain_ruling Release = some release
plain_ruling Refused = none

-- by the decision code (1 Accept, 2 Aborted, 3 any other), whether the entry waits for a settlement not decided here, and whether it
-- is a core that owes
abbrev pub ruled_by : ℕ → Bool → Bool → Ruling
ruled_by code is_open is_owing =
    cond (eqb code 1) (cond is_open Skip (cond is_owing Resolve Release))
    (cond (leb 2 code && leb code 3) (cond is_open Skip Release)
    Refused)

-- a line, on the entry that it names
abbrev pub ruled_on : ℕ → List ℕ → Line → Entry → Ruling
ruled_on local deciding l e =
    ruled_by l.decision (is_settling e.part && not (has self l.transaction deciding)) (is_core e.part && owes local e.terms)
