-- What was appended so far.
use Rattle.std.proofs.Common.{◌≡◌, ◌++◌, take}
use Rattle.term_model.specs.Creation.{stated_ids}
use Rattle.set_report.proofs.class_lists.append_attributes.Given as goal

abbrev pub invariant-loop-of_package : goal.invariant-loop-of_package
invariant-loop-of_package l = l.into.items ≡ l.fn.into.items ++ stated_ids (take l.of_package-index l.packages)
