-- What was found for the front of the list so far.
use Rattle.std.proofs.Common.{◌≡◌, take}
use Rattle.std.specs.Prelude.{flat_map}
use Rattle.term_model.specs.PresentPackages.{superclasses}
use Rattle.class_packages.proofs.superclasses.all_superclasses.Given as goal

abbrev pub invariant-loop-class : goal.invariant-loop-class
invariant-loop-class l = l.found.items ≡ flat_map (superclasses l.records) (take l.class-index l.classes)
