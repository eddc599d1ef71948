-- The attribute.
use Rattle.std.proofs.Common.{subst, sym}
use Rattle.gdmo_names.specs.MemberViews.{attribute_reference}
use Rattle.gdmo_names.specs.TargetTables.{Fits}
use Rattle.gdmo_names.proofs.FindingLaws.{finds_one}
use Rattle.gdmo_names.proofs.ShapeLaws.{attribute_fits}
use Rattle.gdmo_names.proofs.finding_attributes.find_attribute_role.Goals as goal

pub returns : goal.returns
returns c = λ is_kind. finds_one c.args.role c.in_ok-target.target (attribute_reference c.args.reference.now)
    (subst (λ kind. Fits kind (attribute_reference c.args.reference.now)) (sym is_kind)
    (attribute_fits c.args.reference.now)) c.in_ok-target.ensures c.in_ok-push.ensures.items
