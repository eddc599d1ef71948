-- What was appended so far.
use Rattle.std.proofs.Common.{◌≡◌, take}
use Rattle.std.specs.Prelude.{flat_map}
use Rattle.term_model.specs.Creation.{stated_ids}
use Rattle.term_model.specs.PresentPackages.{packages_by}
use Rattle.class_packages.proofs.attribute_ids.stated_by.Given as goal

abbrev pub invariant-loop-class : goal.invariant-loop-class
invariant-loop-class l =
    l.stated.items ≡ stated_ids (flat_map (packages_by l.records l.chosen) (take l.class-index l.classes))
