-- Every entry fits its arrays.
-- Assumes nothing.
use lib.ListN.{take}
use Rattle.lists.proofs.Cuts.{every_within}
use Rattle.entry.specs.declared.Entry.{Entry}
use Rattle.entry.specs.Entry.{Fits}

pub fits_of : (e : Entry) → Fits e
fits_of e =
    record {
      routes_len = e.counts.0;
      core_len = e.counts.1;
      edges_len = e.counts.2;
      absences_len = e.counts.3;
      marks_len = e.counts.4;
      few = every_within 4 (take e.edges_len e.sizes) e.few;
      routes = e.words.0;
      core = e.words.1;
      ids = e.words.2;
      froms = e.words.3;
      to = e.words.4;
      marks = e.words.5;
      kinds = e.others.0;
      sizes = e.others.1;
      absences = e.others.2;
    }
