-- What the table says of the marks is said; of a tree the route's leaf.
use Rattle.std.proofs.Common.{rules, ◌≡◌, Err, [], sym}
use Rattle.rules.specs.Tree.{tree_of}
use Rattle.rules.proofs.Tree.{accepted-height}
use Rattle.trees.proofs.Read.{of_read}
use Rattle.readings.proofs.Looked.{refuses, passes, tells}
use Rattle.readings.proofs.lookups.leaf_for_route.Goals as goal

pub returns-in_err-read : goal.returns-in_err-read
returns-in_err-read c =
    let said : c.from_residual.result ≡ Err c.in_err-read.field-0.0 = search rules in
    rw said (refuses c.in_err-read.field-0.0 _ _ _ [] (sym c.in_err-read.ensures.refused))

pub leaf_of-requires : goal.leaf_of-requires
leaf_of-requires c = of_read c.args.marks.now _ c.in_ok-read.ensures.refused c.in_ok-read.ensures.read

pub returns : goal.returns
returns c =
    let e = sym c.in_ok-read.ensures.refused in
    passes _ _ _ [] [] _ e (tells _ _ _ (c.leaf_of.ensures (tree_of c.args.marks.now) (accepted-height c.args.marks.now e) c.in_ok-read.ensures.read))
