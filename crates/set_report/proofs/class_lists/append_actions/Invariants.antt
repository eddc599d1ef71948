-- What was appended so far.
use Rattle.std.proofs.Common.{◌≡◌, ◌++◌, take}
use Rattle.set_report.specs.ClassLists.{package_actions}
use Rattle.set_report.proofs.class_lists.append_actions.Given as goal

abbrev pub invariant-loop-of_package : goal.invariant-loop-of_package
invariant-loop-of_package l = l.into.items ≡ l.fn.into.items ++ package_actions (take l.of_package-index l.packages)
