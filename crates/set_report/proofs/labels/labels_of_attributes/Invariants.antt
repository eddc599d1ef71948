-- The labels so far.
use Rattle.std.proofs.Common.{take}
use Rattle.set_report.specs.Labels.{HasLabels, attribute_labels}
use Rattle.set_report.proofs.labels.labels_of_attributes.Given as goal

abbrev pub invariant-loop-of_attribute : goal.invariant-loop-of_attribute
invariant-loop-of_attribute l = HasLabels l.labels (attribute_labels (take l.of_attribute-index l.attributes))
