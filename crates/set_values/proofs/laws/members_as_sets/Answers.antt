use Rattle.set_values.proofs.SetLaws.{added_often_holds, removed_often_holds}
use Rattle.set_values.proofs.laws.members_as_sets.Goals as goal

pub returns-clause-added : goal.returns-clause-added
returns-clause-added c = added_often_holds

pub returns-clause-removed : goal.returns-clause-removed
returns-clause-removed c = removed_often_holds
