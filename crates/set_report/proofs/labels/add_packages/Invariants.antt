-- The labels that were added so far.
use Rattle.std.proofs.Common.{take}
use Rattle.std.specs.Prelude.{flat_map}
use Rattle.set_report.specs.Labels.{AddsLabels, package_label}
use Rattle.set_report.proofs.labels.add_packages.Given as goal

abbrev pub invariant-loop-of_package : goal.invariant-loop-of_package
invariant-loop-of_package l =
    AddsLabels l.fn.labels l.labels (flat_map package_label (take l.of_package-index l.packages))
