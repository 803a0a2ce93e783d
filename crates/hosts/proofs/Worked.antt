-- Each computes.
-- Assumes nothing.
use mathlib.Core.Path.{refl}
use Rattle.word_bytes.specs.Bytes.{bytes_of, words_in}
use Rattle.rules.specs.Words.{admission_terms, admission_formed, admission_timed, admission_placed}
use Rattle.rules.specs.Numbers.{depth, owns}
use Rattle.rules.specs.Snapshot.{entry_words, snapshot_words, entry_in, ledger_in, entry_formed, snapshot_formed, entry_sound, snapshot_sound, restoring}
use Rattle.rules.specs.Prune.{rule_of, survivors, fallen, reports, pruned}
use Rattle.rules.specs.Calls.{making, after_prune}
use Rattle.hosts.specs.Hosts.{restoring_bytes, made_for_host, read_for_host, pruned_for_host}
use Rattle.hosts.specs.Worked.{Worked}

pub worked : Worked
unfolding bytes_of words_in admission_terms admission_formed admission_timed admission_placed depth owns entry_words snapshot_words entry_in ledger_in entry_formed snapshot_formed entry_sound snapshot_sound restoring rule_of survivors fallen reports pruned making after_prune restoring_bytes made_for_host read_for_host pruned_for_host
worked =
    record {
      made = refl;
      made_short = refl;
      no_shard = refl;
      no_span = refl;
      read = refl;
      read_short = refl;
      no_words = refl;
      word_less = refl;
      never_written = refl;
      pruned = refl;
      out_short = refl;
      reports_short = refl;
      no_time = refl;
      no_words_no_time = refl;
    }
