use Rattle.set_values.proofs.SetLaws.{added_fit_holds, removed_fit_holds}
use Rattle.set_values.proofs.laws.members_fit.Goals as goal

pub returns-clause-added : goal.returns-clause-added
returns-clause-added c = added_fit_holds

pub returns-clause-removed : goal.returns-clause-removed
returns-clause-removed c = removed_fit_holds
