-- The labels so far.
use Rattle.std.proofs.Common.{take}
use Rattle.set_report.specs.Labels.{HasLabels, package_labels}
use Rattle.set_report.proofs.labels.labels_of_packages.Given as goal

abbrev pub invariant-loop-of_class : goal.invariant-loop-of_class
invariant-loop-of_class l = HasLabels l.labels (package_labels (take l.of_class-index l.classes))
