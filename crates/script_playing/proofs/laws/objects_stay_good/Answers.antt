use Rattle.script_playing.proofs.GoodLaws.{objects_stay_good}
use Rattle.script_playing.proofs.laws.objects_stay_good.Goals as goal

pub returns : goal.returns
returns c = objects_stay_good
