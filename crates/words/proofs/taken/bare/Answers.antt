-- The figures are read where they stand, and the routes are copied.
use Rattle.std.proofs.Common.{ap, map, take}
use Rattle.lists.specs.Lists.{zip_by, cut}
use Rattle.rules.specs.Words.{edge, with}
use Rattle.types.specs.Transactions.{number_of}
use Rattle.entry.specs.Entry.{plain_entry, plain_part, plain_absence, certificate_number}
use Rattle.words.proofs.Built.{figure, first_figure}
use Rattle.words.proofs.taken.bare.Goals as goal

pub returns : goal.returns
unfolding plain_entry
returns c =
    let a = c.args in
    let w = a.words.now in
    let b = c.blank-e.ensures in
    let e = c.blank-e.result in
    record {
      plain = λ i. record {
        terms = record {
          transaction = first_figure w a.at (number_of c.read-e.result) c.read-e.ensures i;
          at = figure w a.at 1 c.word_at.result c.word_at.ensures i;
          end = figure w a.at 2 c.word_at-2.result c.word_at-2.ensures i;
          anchor = figure w a.at 3 c.word_at-3.result c.word_at-3.ensures i;
          charge = figure w a.at 4 c.word_at-4.result c.word_at-4.ensures i;
          routes = c.front-held.ensures.1 i;
          core_shards = ap (λ n. take n e.core) b.core_len i;
          edges = ap (λ n. zip_by with (zip_by with (zip_by edge (take n e.ids) (take n e.froms)) (take n e.kinds)) (cut (take n e.sizes) e.to)) b.edges_len i;
        };
        part = plain_part a.part;
        certificate = certificate_number a.certified;
        departed_by = a.departed_by.0;
        absences = ap (λ n. map plain_absence (take n e.absences)) b.absences_len i;
        marks = ap (λ n. take n e.marks) b.marks_len i;
        returned = b.returned i;
      };
    }
