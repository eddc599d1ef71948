use Rattle.hall_seats.proofs.RuleSteps.{begins}
use Rattle.hall_seats.proofs.unnamed_roll.UnnamedRoll.new.Goals as goal

pub of_words-requires : goal.of_words-requires
of_words-requires c = begins
