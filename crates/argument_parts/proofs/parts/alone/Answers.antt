-- A list of another length has no such part.
use Rattle.argument_parts.proofs.RowLaws.{not_one}
use Rattle.argument_parts.proofs.parts.alone.Goals as goal

pub returns-else-trees-eq1 : goal.returns-else-trees-eq1
returns-else-trees-eq1 c = not_one c.args.trees.now c.if-trees-eq1.false
