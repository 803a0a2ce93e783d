-- The refusal table of an admission: the lines that its words decide.
use Rattle.std.specs.Prelude.{ℕ, not, List}
use Rattle.rules.specs.Words.{admission_formed, admission_timed, admission_placed}
use Rattle.rules.specs.Outcome.{◌gives◌then◌}

abbrev pub words_refusal : List ℕ → ℕ
words_refusal ws =
    not (admission_formed ws) gives 5 then
    not (admission_timed ws) gives 3 then
    not (admission_placed ws) gives 4 then 0
