-- The set has one element more.
use Rattle.reached_elements.proofs.MarkLaws.{mark_told}
use Rattle.reached_elements.proofs.marks.Marks.mark.Goals as goal

pub returns : goal.returns
returns c = mark_told c.self.inside.marked c.insert.new.self c.self.inside.count c.args.element c.args.self.now
    c.self.view_is c.in_ok-insert.ensures.updates.1 c.in_ok-insert.ensures.updates.2
