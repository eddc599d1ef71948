-- What was appended so far.
use Rattle.std.proofs.Common.{◌≡◌, ◌++◌, take}
use Rattle.set_report.specs.ClassLists.{registered_packages}
use Rattle.set_report.proofs.class_lists.append_packages.Given as goal

abbrev pub invariant-loop-of_package : goal.invariant-loop-of_package
invariant-loop-of_package l = l.into.items ≡ l.fn.into.items ++ registered_packages (take l.of_package-index l.packages)
