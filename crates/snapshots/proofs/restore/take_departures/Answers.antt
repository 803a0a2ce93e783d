-- The departures are the last words.
use Rattle.std.proofs.Common.{◌-◌, ◌*◌, ap, arith, length, length-drop}
use Rattle.ledger.specs.Contents.{contents}
use Rattle.snapshots.proofs.Forms.{departures_told}
use Rattle.snapshots.proofs.Filling.{formed_of, gone_at, departures_put}
use Rattle.snapshots.proofs.restore.take_departures.Goals as goal

pub sizes_at-requires : goal.sizes_at-requires
sizes_at-requires c = (formed_of c.args.words.now c.requires.0.formed).few_counts

pub overflow_add-sizes_at : goal.overflow_add-sizes_at
overflow_add-sizes_at c = omega (arith, c.sizes_at.ensures, (formed_of c.args.words.now c.requires.0.formed).few_counts)

pub overflow_mul-m : goal.overflow_mul-m
overflow_mul-m c =
    let ws = c.args.words.now in
    omega (arith, departures_told ws _ c.size_at-m.result c.sizes_at.ensures c.size_at-m.ensures, (formed_of ws c.requires.0.formed).few_gone)

pub overflow_sub-words : goal.overflow_sub-words
overflow_sub-words c =
    let ws = c.args.words.now in
    omega (arith, departures_told ws _ c.size_at-m.result c.sizes_at.ensures c.size_at-m.ensures, (formed_of ws c.requires.0.formed).exact)

pub file_all-requires : goal.file_all-requires
unfolding contents
file_all-requires c =
    let ws = c.args.words.now in
    let f = formed_of ws c.requires.0.formed in
    let m = departures_told ws _ c.size_at-m.result c.sizes_at.ensures c.size_at-m.ensures in
    (c.requires.1, omega (arith, f.few_gone, m), omega (arith, f.exact, m, ap length c.split_at.ensures.back, length-drop (length ws - 4 * c.size_at-m.result) ws))

pub returns : goal.returns
returns c =
    let ws = c.args.words.now in
    let m = departures_told ws _ c.size_at-m.result c.sizes_at.ensures c.size_at-m.ensures in
    departures_put ws _ c.requires.0 _ _ _ (rw (gone_at ws c.requires.0.formed _ _ m c.split_at.ensures.back) at c.file_all.ensures)
