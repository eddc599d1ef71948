-- A list of another length has no two values.
use Rattle.argument_parts.proofs.RowLaws.{not_two}
use Rattle.argument_parts.proofs.parts.pair.Goals as goal

pub returns-else-trees-eq2 : goal.returns-else-trees-eq2
returns-else-trees-eq2 c = not_two c.args.trees.now c.if-trees-eq2.false
