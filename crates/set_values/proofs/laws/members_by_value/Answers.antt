use Rattle.set_values.proofs.HaveLaws.{added_are_union, removed_are_difference}
use Rattle.set_values.proofs.laws.members_by_value.Goals as goal

pub returns-clause-added : goal.returns-clause-added
returns-clause-added c = added_are_union

pub returns-clause-removed : goal.returns-clause-removed
returns-clause-removed c = removed_are_difference
