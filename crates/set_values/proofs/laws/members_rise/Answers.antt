use Rattle.set_values.proofs.SetLaws.{added_rise_holds, removed_rise_holds}
use Rattle.set_values.proofs.laws.members_rise.Goals as goal

pub returns-clause-added : goal.returns-clause-added
returns-clause-added c = added_rise_holds

pub returns-clause-removed : goal.returns-clause-removed
returns-clause-removed c = removed_rise_holds
