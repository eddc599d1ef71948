-- The attribute, its values and its parameters.
use Rattle.gdmo_names.specs.MemberViews.{attribute_reference, parameter_reference}
use Rattle.gdmo_names.specs.Mentions.Role.{OfParameter}
use Rattle.gdmo_names.specs.declared.roles.Role.TheVariants as roles
use Rattle.std.proofs.lemmas.Result.{on_ok_weaker}
use Rattle.gdmo_names.proofs.FindingLaws.{finds_alone, finds_both, finds_one, finds_slice}
use Rattle.gdmo_names.proofs.ShapeLaws.{attribute_fits}
use Rattle.gdmo_names.proofs.finding_packages.find_use.Goals as goal

pub returns : goal.returns
returns c = on_ok_weaker c.find_parameters.result (λ behind. finds_both
    (finds_one roles.PackageAttribute c.in_ok-target.target (attribute_reference c.args.x.now.attribute)
    (attribute_fits c.args.x.now.attribute) c.in_ok-target.ensures c.in_ok-push.ensures.items)
    (finds_both c.in_ok-find_stated.ensures (finds_both c.in_ok-find_stated-2.ensures (finds_alone (finds_slice OfParameter parameter_reference c.as_slice.ensures.value behind)))))
    c.find_parameters.ensures
