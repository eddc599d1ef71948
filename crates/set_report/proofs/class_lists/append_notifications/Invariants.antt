-- What was appended so far.
use Rattle.std.proofs.Common.{◌≡◌, ◌++◌, take}
use Rattle.set_report.specs.ClassLists.{package_notifications}
use Rattle.set_report.proofs.class_lists.append_notifications.Given as goal

abbrev pub invariant-loop-of_package : goal.invariant-loop-of_package
invariant-loop-of_package l =
    l.into.items ≡ l.fn.into.items ++ package_notifications (take l.of_package-index l.packages)
