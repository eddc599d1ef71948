-- What was appended so far.
use Rattle.std.proofs.Common.{◌≡◌, ◌++◌, take}
use Rattle.std.specs.Prelude.{filter}
use Rattle.term_model.specs.Creation.{stated_ids}
use Rattle.term_model.specs.PresentPackages.{is_chosen}
use Rattle.class_packages.proofs.attribute_ids.append_chosen.Given as goal

abbrev pub invariant-loop-of_package : goal.invariant-loop-of_package
invariant-loop-of_package l =
    l.into.items
    ≡ l.fn.into.items ++ stated_ids (filter (is_chosen l.chosen) (take l.of_package-index l.packages))
