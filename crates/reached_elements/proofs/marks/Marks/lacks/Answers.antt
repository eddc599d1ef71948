-- A mark that is there is not set where the set hasn't the element.
use Rattle.std.proofs.Common.{false}
use Rattle.reached_elements.proofs.MarkLaws.{lacks_told, none_past}
use Rattle.reached_elements.proofs.marks.Marks.lacks.Goals as goal

pub returns-then-element-self : goal.returns-then-element-self
returns-then-element-self c = lacks_told c.self.inside.marked c.self.inside.count c.args.element c.args.self.now
    c.contains.result c.self.view_is c.if-element-self.true c.contains.ensures

pub returns-else-element-self : goal.returns-else-element-self
returns-else-element-self c = none_past c.self.inside.marked c.self.inside.count c.args.element c.args.self.now false
    c.self.view_is c.if-element-self.false
