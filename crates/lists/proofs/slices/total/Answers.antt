-- The library sums the items one by one, and their sum is a word.
use Rattle.std.proofs.Common.{◌∙◌, arith}
use Rattle.std.proofs.lemmas.Iterator.{YieldsList-from_slice}
use Rattle.std.proofs.lemmas.Iterator.Consumers.{sum_from_yields_List, fits_from_yields_list}
use Rattle.lists.specs.Lists.{self}
use Rattle.lists.proofs.Std.{total_is}
use Rattle.lists.proofs.slices.total.Goals as goal

pub sum-requires-clause-fits : goal.sum-requires-clause-fits
sum-requires-clause-fits c = fits_from_yields_list c.iter.result _ (YieldsList-from_slice c.args.s.now cc) (omega (arith, total_is self c.args.s.now))

pub returns : goal.returns
returns c = sum_from_yields_List c.iter.result _ c.sum.ensures.ran (YieldsList-from_slice c.args.s.now cc) ∙ total_is self c.args.s.now
