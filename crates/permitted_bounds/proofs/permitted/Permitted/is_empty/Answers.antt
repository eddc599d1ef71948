use Rattle.permitted_bounds.proofs.EmptyLaws.{none_is_left}
use Rattle.permitted_bounds.proofs.permitted.Permitted.is_empty.Goals as goal

pub returns-in-None-clause-empty : goal.returns-in-None-clause-empty
returns-in-None-clause-empty c = λ _ syntax types known. none_is_left syntax types _ c.in-None.ensures known
