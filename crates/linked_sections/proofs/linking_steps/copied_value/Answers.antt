-- What the copy says.
use Rattle.linked_sections.proofs.TakenLaws.{taken_same}
use Rattle.linked_sections.proofs.linking_steps.copied_value.Goals as goal

pub returns-clause-taken : goal.returns-clause-taken
returns-clause-taken c = taken_same c.in_ok-copy.copy c.args.value.now c.in_ok-copy.ensures
