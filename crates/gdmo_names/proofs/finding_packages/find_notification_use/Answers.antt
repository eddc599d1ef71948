-- The reference, and those behind it.
use Rattle.gdmo_names.specs.ClassViews.{notification_reference}
use Rattle.gdmo_names.specs.MemberViews.{parameter_reference}
use Rattle.gdmo_names.specs.Mentions.Role.{OfParameter}
use Rattle.gdmo_names.specs.declared.roles.Role.TheVariants as roles
use Rattle.std.proofs.lemmas.Result.{on_ok_weaker}
use Rattle.gdmo_names.proofs.FindingLaws.{finds_alone, finds_both, finds_one, finds_slice}
use Rattle.gdmo_names.proofs.ShapeLaws.{notification_fits}
use Rattle.gdmo_names.proofs.finding_packages.find_notification_use.Goals as goal

pub returns : goal.returns
returns c = on_ok_weaker c.find_parameters.result (λ behind. finds_both
    (finds_one roles.PackageNotification c.in_ok-target.target (notification_reference c.args.x.now.notification)
    (notification_fits c.args.x.now.notification) c.in_ok-target.ensures c.in_ok-push.ensures.items) (finds_alone (finds_slice OfParameter parameter_reference c.as_slice.ensures.value behind)))
    c.find_parameters.ensures
