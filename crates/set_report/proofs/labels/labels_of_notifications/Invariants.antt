-- The labels so far.
use Rattle.std.proofs.Common.{take}
use Rattle.set_report.specs.Labels.{HasLabels, notification_labels}
use Rattle.set_report.proofs.labels.labels_of_notifications.Given as goal

abbrev pub invariant-loop-of_note : goal.invariant-loop-of_note
invariant-loop-of_note l = HasLabels l.labels (notification_labels (take l.of_note-index l.notifications))
