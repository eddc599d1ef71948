-- By the three sets together.
use Rattle.begun_values.proofs.BegunLaws.{marks_tell}
use Rattle.begun_values.proofs.laws.marks_tell_begun.Goals as goal

pub returns : goal.returns
returns c = marks_tell
