-- Each half has one level less below it.
use Rattle.trees.proofs.Halves.+list.Given as goal

abbrev pub decreases-list : goal.decreases-list
decreases-list l = l.left
