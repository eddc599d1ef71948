-- No mark is set by a set that has nothing.
use Rattle.reached_elements.proofs.MarkLaws.{none_set}
use Rattle.reached_elements.proofs.marks.Marks.none.Goals as goal

pub returns : goal.returns
returns c = none_set c.new.result 0 c.args.count c.new.ensures.empty
