-- A list of another length has no such parts.
use Rattle.bind_apdus.proofs.PartLaws.{not_one}
use Rattle.bind_apdus.proofs.bind_reading.alone.Goals as goal

pub returns-else-trees-eq1 : goal.returns-else-trees-eq1
returns-else-trees-eq1 c = not_one c.args.trees.now c.if-trees-eq1.false
