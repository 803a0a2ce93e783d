-- The core shards and the edges are copied; the rest of the entry stays.
use Rattle.std.proofs.Common.{◌≡◌, ap, ◌∙◌, ◌+◌, ◌*◌, arith, length, take}
use Rattle.lists.proofs.Cuts.{part-front, part_length}
use Rattle.rules.specs.Words.{core_count, edge_count, core_at, edges_at, core_in, sizes, admission_terms}
use Rattle.entry.specs.Entry.{plain_entry, plain_part, certificate_number, absences_of}
use Rattle.words.proofs.Forms.{formed_of, kinds_short, sizes_short, kinds_narrow, sizes_narrow, to_short}
use Rattle.words.proofs.Built.{edges_built, destinations_built}
use Rattle.words.proofs.admission.Admission.with_edges.Goals as goal

pub bytes-kinds-requires : goal.bytes-kinds-requires
bytes-kinds-requires c = let s = c.args.self.parts.split in (omega arith, (kinds_short _ _ _ _ _ _ _ _ s, kinds_narrow _ _ _ _ _ _ _ _ s c.args.self.formed))

pub bytes-sizes-requires : goal.bytes-sizes-requires
bytes-sizes-requires c = let s = c.args.self.parts.split in (omega arith, (sizes_short _ _ _ _ _ _ _ _ s, sizes_narrow _ _ _ _ _ _ _ _ s c.args.self.formed))

pub front-to-requires : goal.front-to-requires
front-to-requires c = let s = c.args.self.parts.split in (omega arith, to_short _ _ _ _ _ _ _ _ s c.args.self.formed)

pub invariant_of-r : goal.invariant_of-r
invariant_of-r c =
    let p = c.args.self.parts in
    let w = p.words.now in
    let s = p.split in
    let f = formed_of w c.args.self.formed in
    let h = c.args.e in
    let at = edges_at w in
    let n = edge_count w in
    let many : length p.ids.now ≡ n = ap length s.ids ∙ part_length at n w (omega (arith, f.sized.room)) in
    let size : take n c.bytes-sizes.result ≡ sizes w = part-front c.bytes-sizes.result p.sizes.now (at + 3 * n) n w s.sizes (omega (arith, f.sized.room)) c.bytes-sizes.ensures.1 in
    record {
      counts = (
        h.counts.0,
        omega (arith, ap length s.core, part_length (core_at w) (core_count w) w (omega (arith, f.sized.room)), f.sized.counted.core),
        omega (arith, many, f.sized.counted.edges),
        h.counts.3,
        h.counts.4,
      );
      few = rw (many, size) f.few;
      words = (h.words.0, c.front-core.ensures.0, c.front-ids.ensures.0, c.front-froms.ensures.0, c.front-to.ensures.0, h.words.5);
      others = (c.bytes-kinds.ensures.0, c.bytes-sizes.ensures.0, h.others.2);
    }

pub returns : goal.returns
unfolding plain_entry admission_terms
returns c =
    let p = c.args.self.parts in
    let w = p.words.now in
    let s = p.split in
    let f = formed_of w c.args.self.formed in
    let old = c.requires in
    let at = edges_at w in
    let n = edge_count w in
    let many : length p.ids.now ≡ n = ap length s.ids ∙ part_length at n w (omega (arith, f.sized.room)) in
    let held : take (length p.core.now) c.front-core.result ≡ core_in w = c.front-core.ensures.1 ∙ s.core in
    let size : take n c.bytes-sizes.result ≡ sizes w = part-front c.bytes-sizes.result p.sizes.now (at + 3 * n) n w s.sizes (omega (arith, f.sized.room)) c.bytes-sizes.ensures.1 in
    let edges = edges_built w c.front-ids.result c.front-froms.result c.bytes-kinds.result c.bytes-sizes.result c.front-to.result (length p.ids.now) many
    (part-front c.front-ids.result p.ids.now at n w s.ids (omega (arith, f.sized.room)) c.front-ids.ensures.1)
    (part-front c.front-froms.result p.froms.now (at + n) n w s.froms (omega (arith, f.sized.room)) c.front-froms.ensures.1)
    (part-front c.bytes-kinds.result p.kinds.now (at + 2 * n) n w s.kinds (omega (arith, f.sized.room)) c.bytes-kinds.ensures.1)
    size
    (destinations_built w p.destinations.now c.front-to.result f s.to c.front-to.ensures.1) in
    record {
      plain = λ i. record {
        terms = record {
          transaction = (old i).transaction;
          at = (old i).at;
          end = (old i).end;
          anchor = (old i).anchor;
          charge = (old i).charge;
          routes = (old i).routes;
          core_shards = held i;
          edges = edges i;
        };
        part = plain_part c.args.e.part;
        certificate = certificate_number c.args.e.certified;
        departed_by = c.args.e.departed_by.0;
        absences = absences_of c.args.e;
        marks = take c.args.e.marks_len c.args.e.marks;
        returned = c.args.e.returned;
      };
    }
