-- None of the packages so far has such an attribute.
use Rattle.std.proofs.Common.{◌≡◌, take, false}
use Rattle.term_model.specs.BoundClasses.{have_attribute}
use Rattle.attribute_rules.proofs.bound_logs.have_attribute.Given as goal

abbrev pub invariant-loop-of_package : goal.invariant-loop-of_package
invariant-loop-of_package l =
    have_attribute l.records (take l.of_package-index l.packages) (l.label, l.syntax) ≡ false
