-- The reference, and those behind it.
use Rattle.gdmo_names.specs.ClassViews.{group_reference}
use Rattle.gdmo_names.specs.MemberViews.{attribute_reference}
use Rattle.gdmo_names.specs.Mentions.Role.{AddedAttribute}
use Rattle.gdmo_names.specs.declared.roles.Role.TheVariants as roles
use Rattle.std.proofs.Common.{refl}
use Rattle.std.proofs.lemmas.Result.{on_ok_weaker}
use Rattle.gdmo_names.proofs.FindingLaws.{finds_alone, finds_both, finds_one, finds_slice}
use Rattle.gdmo_names.proofs.ShapeLaws.{group_fits}
use Rattle.gdmo_names.proofs.finding_packages.find_group_use.Goals as goal

pub returns : goal.returns
returns c = on_ok_weaker c.find_attributes.result (λ behind. finds_both
    (finds_one roles.PackageGroup c.in_ok-target.target (group_reference c.args.x.now.group)
    (group_fits c.args.x.now.group) c.in_ok-target.ensures c.in_ok-push.ensures.items) (finds_alone (finds_slice AddedAttribute attribute_reference c.as_slice.ensures.value behind)))
    (c.find_attributes.ensures refl)
