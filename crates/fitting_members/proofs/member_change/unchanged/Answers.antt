-- Nothing is taken back.
use Rattle.fitting_members.proofs.UndoLaws.{nothing_back}
use Rattle.fitting_members.proofs.member_change.unchanged.Goals as goal

pub returns-clause-undo : goal.returns-clause-undo
returns-clause-undo c = nothing_back
