use Rattle.std.proofs.Common.{[], ◌∷◌, take}
use Rattle.std.specs.Prelude.{flat_map}
use Rattle.gdmo_classes.specs.declared.member_use.NotificationUse.{NotificationUse}
use Rattle.gdmo_names.specs.ClassViews.{notification_terms}
use Rattle.gdmo_names.specs.DocumentTemplates.{in_rows}
use Rattle.gdmo_names.specs.Mentions.{row_mentions}
use Rattle.gdmo_names.specs.Mentions.Role.{PackageNotification, OfParameter}
use Rattle.gdmo_names.specs.FindingSteps.{Finds}
use Rattle.gdmo_names.proofs.finding_packages.find_notification_uses.Given as goal

abbrev pub invariant-loop-x : goal.invariant-loop-x
invariant-loop-x l = Finds l.initial.finding l.finding l.initial.own.items l.own.items
    (flat_map (λ (y : NotificationUse). in_rows (notification_terms (y ∷ []))) (take l.x-index l.uses))
    (flat_map (λ (y : NotificationUse). row_mentions PackageNotification OfParameter (notification_terms (y ∷ []))) (take l.x-index l.uses))
