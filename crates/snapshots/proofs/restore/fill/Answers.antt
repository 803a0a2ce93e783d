-- The counts, the departures and then the entries, each where its words stand.
use Rattle.std.proofs.Common.{arith}
use Rattle.snapshots.proofs.Forms.{entries_told, lengths-are, joined-are}
use Rattle.snapshots.proofs.Filling.{formed_of, ready_counts, not_counted, ready_departures, not_filed, ready_entries, filled}
use Rattle.snapshots.proofs.restore.fill.Goals as goal

pub take_counts-requires : goal.take_counts-requires
take_counts-requires c = ready_counts _ _ c.requires

pub returns-then-not-take_counts : goal.returns-then-not-take_counts
returns-then-not-take_counts c = not_counted _ _ c.requires _ _ c.take_counts.ensures c.if-not-take_counts.true _

pub take_departures-requires : goal.take_departures-requires
take_departures-requires c = ready_departures _ _ c.requires _ _ c.take_counts.ensures c.if-not-take_counts.false

pub returns-then-not-take_departures : goal.returns-then-not-take_departures
returns-then-not-take_departures c =
    not_filed _ _ c.requires _ _ c.take_counts.ensures c.if-not-take_counts.false _ _ c.take_departures.ensures c.if-not-take_departures.true _

pub sizes_at-at-requires : goal.sizes_at-at-requires
sizes_at-at-requires c = (formed_of c.args.words.now c.requires.formed).few_counts

pub overflow_add-at : goal.overflow_add-at
overflow_add-at c = omega (arith, c.sizes_at-at.ensures, (formed_of c.args.words.now c.requires.formed).few_counts)

pub overflow_add-at-2 : goal.overflow_add-at-2
overflow_add-at-2 c =
    let ws = c.args.words.now in
    let f = formed_of ws c.requires.formed in
    omega (arith, c.sizes_at-at.ensures, entries_told ws _ c.size_at-n.result c.sizes_at-at.ensures c.size_at-n.ensures, f.few_counts, f.few)

pub split_at-requires : goal.split_at-requires
split_at-requires c =
    let ws = c.args.words.now in
    omega (arith, c.sizes_at-at.ensures, entries_told ws _ c.size_at-n.result c.sizes_at-at.ensures c.size_at-n.ensures, (formed_of ws c.requires.formed).exact)

pub take_entries-requires : goal.take_entries-requires
take_entries-requires c =
    let ws = c.args.words.now in
    ready_entries _ _ c.requires _ _ c.take_counts.ensures c.if-not-take_counts.false _ _ c.take_departures.ensures c.if-not-take_departures.false _ _
    (lengths-are ws _ c.size_at-n.result c.sizes_at-at.ensures _ c.size_at-n.ensures c.part.ensures)
    (joined-are ws _ c.size_at-n.result c.sizes_at-at.ensures _ c.size_at-n.ensures c.split_at.ensures.back)

pub returns : goal.returns
returns c =
    let ws = c.args.words.now in
    filled _ _ c.requires _ _ c.take_counts.ensures c.if-not-take_counts.false _ _ c.take_departures.ensures c.if-not-take_departures.false _ _
    (lengths-are ws _ c.size_at-n.result c.sizes_at-at.ensures _ c.size_at-n.ensures c.part.ensures)
    (joined-are ws _ c.size_at-n.result c.sizes_at-at.ensures _ c.size_at-n.ensures c.split_at.ensures.back)
    _ _ c.take_entries.ensures
