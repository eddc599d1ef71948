-- What was appended so far.
use Rattle.std.proofs.Common.{◌≡◌, ◌++◌, take}
use Rattle.std.specs.Prelude.{map}
use Rattle.term_model.specs.declared.packages.Property.{Property}
use Rattle.set_report.proofs.class_lists.append_package.Given as goal

abbrev pub invariant-loop-stated : goal.invariant-loop-stated
invariant-loop-stated l =
    l.into.items ≡ l.fn.into.items
    ++ map (λ (stated : Property). stated.attribute) (take l.stated-index l.of_package.attributes)
