-- An entry's absences are as many as their number says.
-- Assumes nothing.
use mathlib.Core.Path.{◌≡◌, ◌∙◌}
use native.Mathlib.Omega.{arith}
use lib.ListN.{length, take, length-map}
use lib.Seq.{length-take-le}
use Rattle.entry.specs.declared.Entry.{Entry}
use Rattle.entry.specs.Entry.{absences_of, plain_absence, Fits}

module _ (e : Entry) (fits : Fits e) where
  pub length-absences : length (absences_of e) ≡ e.absences_len
  length-absences = length-map (take e.absences_len e.absences) plain_absence ∙ length-take-le e.absences_len e.absences (omega (arith, fits.absences_len, fits.absences))
