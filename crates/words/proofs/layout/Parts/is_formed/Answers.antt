-- The tests are those of the words taken apart, in their order.
use Rattle.std.proofs.Common.{sym, ◌∙◌, arith}
use Rattle.std.proofs.lemmas.Grind.{common_steps}
use Rattle.words.proofs.Forms.{split_is, few_total}
use Rattle.words.proofs.layout.Parts.is_formed.Goals as goal

pub total-requires : goal.total-requires
total-requires c = few_total _ _ _ _ _ _ _ _ c.args.self.split (sym c.all_within.ensures ∙ c.if-all_within.true)

pub returns-then-rises : goal.returns-then-rises
returns-then-rises c = let e = split_is _ _ _ _ _ _ _ _ c.args.self.split in grind (arith, common_steps, e)

pub returns-else-rises : goal.returns-else-rises
returns-else-rises c = let e = split_is _ _ _ _ _ _ _ _ c.args.self.split in grind (arith, common_steps, e)
