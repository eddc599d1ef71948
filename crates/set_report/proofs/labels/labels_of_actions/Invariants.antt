-- The labels so far.
use Rattle.std.proofs.Common.{take}
use Rattle.set_report.specs.Labels.{HasLabels, action_labels}
use Rattle.set_report.proofs.labels.labels_of_actions.Given as goal

abbrev pub invariant-loop-of_action : goal.invariant-loop-of_action
invariant-loop-of_action l = HasLabels l.labels (action_labels (take l.of_action-index l.actions))
