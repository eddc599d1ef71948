-- None of the classes so far has the label.
use Rattle.std.proofs.Common.{◌≡◌, take, false}
use Rattle.std.specs.List.{list_any}
use Rattle.term_model.specs.BoundClasses.{is_class_labelled}
use Rattle.bound_classes.proofs.discriminators.is_one_labelled.Given as goal

abbrev pub invariant-loop-class : goal.invariant-loop-class
invariant-loop-class l = list_any (is_class_labelled l.records l.label) (take l.class-index l.classes) ≡ false
