-- What the table says of the marks is said first; else the trie says what their tree says.
use Rattle.std.proofs.Common.{rules, ◌≡◌, ◌≤◌, Err, sym}
use Rattle.rules.specs.Tree.{Tree, height, tree_refusal, tree_of, leaf_of}
use Rattle.rules.specs.Readings.{single}
use Rattle.rules.proofs.Tree.{accepted-height}
use Rattle.readings.proofs.Written.{turned_away}
use Rattle.trees.specs.Walks.{Noted, OfTree}
use Rattle.trees.proofs.Read.{of_read}
use Rattle.shard_lists.proofs.counterparts_by_tree.Goals as goal

pub returns-in_err-read : goal.returns-in_err-read
returns-in_err-read c =
    let said : c.from_residual.result ≡ Err c.in_err-read.field-0.0 = search rules in
    rw said (turned_away single _ _ _ c.args.lent.now c.in_err-read.field-0.0 (sym c.in_err-read.ensures.refused))

pub list_beyond-requires : goal.list_beyond-requires
list_beyond-requires c =
    let asked : OfTree c.args.marks.now c.read.new.self.right = of_read c.args.marks.now _ c.in_ok-read.ensures.refused c.in_ok-read.ensures.read in
    search rules

pub returns : goal.returns
returns c =
    let m = c.args.marks.now in
    let e = sym c.in_ok-read.ensures.refused in
    c.list_beyond.ensures (leaf_of (tree_of m))
    (λ route s q. let said : (t : Tree) → height t ≤ 16 → Noted m c.read.new.self.right 0 t → s.0 ≡ leaf_of t route = search (rules, q.met) in said (tree_of m) (accepted-height m e) c.in_ok-read.ensures.read)
    (tree_refusal m) e
