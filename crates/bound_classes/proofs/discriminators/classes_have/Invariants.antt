-- None of the classes so far has such an attribute.
use Rattle.std.proofs.Common.{◌≡◌, take, false}
use Rattle.attribute_rules.specs.MandatoryAttributes.{classes_have}
use Rattle.bound_classes.proofs.discriminators.classes_have.Given as goal

abbrev pub invariant-loop-class : goal.invariant-loop-class
invariant-loop-class l = classes_have l.schema (take l.class-index l.classes) l.label l.syntax ≡ false
