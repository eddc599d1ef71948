use Rattle.term_model.proofs.FollowingLaws.{others_are_left, removed_is_gone}
use Rattle.term_model.proofs.laws.removed_is_gone.Goals as goal

pub returns-clause-gone : goal.returns-clause-gone
returns-clause-gone c = removed_is_gone

pub returns-clause-left : goal.returns-clause-left
returns-clause-left c = others_are_left
