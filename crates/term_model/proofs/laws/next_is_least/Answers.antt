use Rattle.term_model.proofs.FollowingLaws.{next_is_least, none_is_greater}
use Rattle.term_model.proofs.laws.next_is_least.Goals as goal

pub returns-clause-least : goal.returns-clause-least
returns-clause-least c = next_is_least

pub returns-clause-none : goal.returns-clause-none
returns-clause-none c = none_is_greater
