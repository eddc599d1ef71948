-- The labels so far.
use Rattle.std.proofs.Common.{take}
use Rattle.set_report.specs.Labels.{HasLabels, binding_labels}
use Rattle.set_report.proofs.labels.labels_of_bindings.Given as goal

abbrev pub invariant-loop-binding : goal.invariant-loop-binding
invariant-loop-binding l = HasLabels l.labels (binding_labels (take l.binding-index l.bindings))
