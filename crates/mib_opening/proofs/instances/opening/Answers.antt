use Rattle.mib_opening.proofs.GoodOpening.{good_opening}
use Rattle.mib_opening.proofs.instances.opening.Goals as goal

pub returns-clause-good : goal.returns-clause-good
returns-clause-good g c =
    good_opening c.args.schema.now c.open_and_count.result c.open_and_count.ensures.opened
