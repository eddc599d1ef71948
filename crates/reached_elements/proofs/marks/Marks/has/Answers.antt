-- A mark is set where the set has the element.
use Rattle.std.proofs.Common.{true}
use Rattle.reached_elements.proofs.MarkLaws.{has_told, none_past}
use Rattle.reached_elements.proofs.marks.Marks.has.Goals as goal

pub returns-then-element-self : goal.returns-then-element-self
returns-then-element-self c = has_told c.self.inside.marked c.self.inside.count c.args.element c.args.self.now
    c.contains.result c.self.view_is c.if-element-self.true c.contains.ensures

pub returns-else-element-self : goal.returns-else-element-self
returns-else-element-self c = none_past c.self.inside.marked c.self.inside.count c.args.element c.args.self.now true
    c.self.view_is c.if-element-self.false
