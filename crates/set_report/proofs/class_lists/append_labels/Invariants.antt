-- What was appended so far.
use Rattle.std.proofs.Common.{◌≡◌, ◌++◌, take}
use Rattle.set_report.specs.ClassLists.{unregistered_packages}
use Rattle.set_report.proofs.class_lists.append_labels.Given as goal

abbrev pub invariant-loop-of_package : goal.invariant-loop-of_package
invariant-loop-of_package l =
    l.into.items ≡ l.fn.into.items ++ unregistered_packages (take l.of_package-index l.packages)
