-- One more reference, and all of them; and the template with its parts.
use Rattle.std.proofs.Common.{◌≡◌, [], ◌∷◌, arith, rules}
use Rattle.gdmo_names.specs.DocumentTemplates.{in_reference}
use Rattle.gdmo_names.specs.MemberViews.{parameter_reference}
use Rattle.gdmo_names.specs.Mentions.{mention}
use Rattle.gdmo_names.specs.Mentions.Role.{OfParameter}
use Rattle.gdmo_names.specs.declared.roles.Role.TheVariants as roles
use Rattle.gdmo_names.proofs.FindingLaws.{finds_as, finds_both, finds_end, finds_none, finds_one, finds_slice, finds_step}
use Rattle.gdmo_names.proofs.FindingLaws.{registered, template_as, template_found}
use Rattle.gdmo_names.proofs.ShapeLaws.{attribute_found, parameter_found, parameter_fits, in_row, named_row}
use Rattle.gdmo_names.proofs.finding_attributes.+finding_attributes.Goals as goal

pub find_own_parameters-loop-reference-init : goal.find_own_parameters-loop-reference-init
find_own_parameters-loop-reference-init t c = finds_none c.args.finding.now c.args.own.now.items

pub find_own_parameters-loop-reference-preserved : goal.find_own_parameters-loop-reference-preserved
find_own_parameters-loop-reference-preserved t c =
    finds_step (λ x. in_reference (parameter_reference x)) (λ x. mention OfParameter (parameter_reference x) ∷ [])
    c.deref-reference-items.result.now c.loop-reference.reference-index c.reference-item.result
    c.loop-reference-test.true c.reference-item.is c.loop-reference.invariant
    (finds_one roles.OfParameter c.in_ok-target-in-Some.target (parameter_reference c.reference-item.result)
    (parameter_fits c.reference-item.result) c.in_ok-target-in-Some.ensures c.in_ok-push-in-Some.ensures.items)

pub find_attribute-returns : goal.find_attribute-returns
find_attribute-returns t c = template_as (registered c.as_ref-identifier.result c.args.template.now.registration
    c.as_ref-identifier.ensures.value) (template_found c.new-own.ensures.items c.in_ok-number.ensures
    (finds_both c.in_ok-find_base.ensures (finds_both c.in_ok-find_behaviour_clause.ensures
    c.in_ok-find_own_parameters.ensures)) c.end.ensures)

pub find_parameter-returns : goal.find_parameter-returns
find_parameter-returns t c = template_as (registered c.as_ref-identifier.result c.args.template.now.registration
    c.as_ref-identifier.ensures.value) (template_found c.new-own.ensures.items c.in_ok-number.ensures
    (finds_both c.in_ok-find_parameter_attribute.ensures c.in_ok-find_behaviour_clause.ensures) c.end.ensures)

pub find_own_parameters-returns-after-loop-reference : goal.find_own_parameters-returns-after-loop-reference
find_own_parameters-returns-after-loop-reference t c =
    let same : c.deref-reference-items.result.now ≡ c.in-Some.references.items = search rules in
    rw c.in-Some.is (finds_slice OfParameter parameter_reference same
    (finds_as (in_row parameter_reference c.deref-reference-items.result.now)
    (named_row OfParameter parameter_reference c.deref-reference-items.result.now)
    (finds_end (λ x. in_reference (parameter_reference x)) (λ x. mention OfParameter (parameter_reference x) ∷ []) c.deref-reference-items.result.now
    c.loop-reference.reference-index (omega (arith, c.loop-reference-test.false)) c.loop-reference.invariant)))

pub attribute_target-returns-in_ok-find_attribute-in-Template : goal.attribute_target-returns-in_ok-find_attribute-in-Template
attribute_target-returns-in_ok-find_attribute-in-Template t c =
    attribute_found c.args.reference.now c.in-Template.template c.deref.result.now (search rules) (search rules)
    c.in_ok-find_attribute-in-Template.ensures

pub parameter_target-returns-in_ok-find_parameter-in-Template : goal.parameter_target-returns-in_ok-find_parameter-in-Template
parameter_target-returns-in_ok-find_parameter-in-Template t c =
    parameter_found c.args.reference.now c.in-Template.template c.deref.result.now (search rules) (search rules)
    c.in_ok-find_parameter-in-Template.ensures
