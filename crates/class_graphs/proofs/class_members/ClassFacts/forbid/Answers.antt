-- It names objects, or it is known not to be there.
use Rattle.std.proofs.Common.{refl}
use Rattle.class_graphs.proofs.EmptyLaws.{forbidden_else, forbidden_then}
use Rattle.class_graphs.proofs.class_members.ClassFacts.forbid.Goals as goal

pub returns-then-is_naming : goal.returns-then-is_naming
returns-then-is_naming c = λ parts views class x tells at. forbidden_then parts views class x c.args.self.now
    c.args.attribute tells at (c.if-is_naming.ensures.0 refl)

pub returns : goal.returns
returns c = λ parts views class x tells at. forbidden_else parts views class x c.args.self.now c.args.attribute
    c.is_naming.result c.is_foreign.result tells at c.if-is_naming.false c.is_naming.ensures c.is_foreign.ensures
