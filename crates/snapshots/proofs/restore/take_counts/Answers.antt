-- The counts stand behind the first five words.
use Rattle.std.proofs.Common.{ap, arith, length, length-drop}
use Rattle.words.proofs.Forms.{all_words_lem}
use Rattle.ledger.specs.Contents.{contents}
use Rattle.snapshots.proofs.Filling.{formed_of, counts_at, counts_put}
use Rattle.snapshots.proofs.restore.take_counts.Goals as goal

pub split_at-requires : goal.split_at-requires
split_at-requires c = let f = formed_of c.args.words.now c.requires.0.formed in omega (arith, f.exact)

pub count_all-requires : goal.count_all-requires
unfolding contents
count_all-requires c =
    let ws = c.args.words.now in
    let f = formed_of ws c.requires.0.formed in
    (c.requires.1, omega (arith, f.few_counts, c.size_at.ensures), omega (arith, f.exact, c.size_at.ensures, ap length c.split_at.ensures.back, length-drop 5 ws))

pub returns : goal.returns
returns c =
    let ws = c.args.words.now in
    counts_put ws _ c.requires.0 _ (all_words_lem ws (λ i. omega (arith, c.type_inv.words i))) _ _
    (rw (counts_at ws _ _ c.size_at.ensures c.split_at.ensures.back) at c.count_all.ensures)
