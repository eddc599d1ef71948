-- By the syntax of the attribute, where it has one.
use Rattle.std.proofs.Common.{ap}
use Rattle.std.specs.Option.{option_copied}
use Rattle.std.proofs.lemmas.Result.{IfOk-weaker}
use Rattle.property_faults.proofs.LeftLaws.{left_told, no_syntax}
use Rattle.property_faults.proofs.property_faults.is_nothing_left.Goals as goal

pub returns-in-Some : goal.returns-in-Some
returns-in-Some c = IfOk-weaker c.is_emptied.result _ _
    (λ empty told ms known. left_told ms c.args.parts.now.linked.now c.args.parts.now.table.now c.args.attribute
    c.args.places.now (option_copied c.attribute_syntax.result) c.in-Some.syntax.now empty
    (ap option_copied c.in-Some.is) (c.attribute_syntax.ensures ms known) told) c.is_emptied.ensures

pub returns-in-None : goal.returns-in-None
returns-in-None c = λ ms known. no_syntax ms c.args.parts.now.linked.now c.args.parts.now.table.now c.args.attribute
    c.args.places.now (option_copied c.attribute_syntax.result) (ap option_copied c.in-None.is)
    (c.attribute_syntax.ensures ms known)
