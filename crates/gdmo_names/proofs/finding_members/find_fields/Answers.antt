-- One more of them, and all.
use Rattle.std.proofs.Common.{[], ◌∷◌, arith}
use Rattle.gdmo_members.specs.declared.notification.Field.{Field as FieldText}
use Rattle.gdmo_names.specs.DocumentTemplates.{in_reference}
use Rattle.gdmo_names.specs.MemberViews.{attribute_reference}
use Rattle.gdmo_names.specs.Mentions.{mention}
use Rattle.gdmo_names.specs.Mentions.Role.{FieldAttribute}
use Rattle.gdmo_names.specs.declared.roles.Role.TheVariants as roles
use Rattle.gdmo_names.proofs.FindingLaws.{finds_as, finds_end, finds_none, finds_one, finds_step}
use Rattle.gdmo_names.proofs.ShapeLaws.{attribute_fits, in_fields_row, named_fields}
use Rattle.gdmo_names.proofs.finding_members.find_fields.Goals as goal

pub loop-field-init : goal.loop-field-init
loop-field-init c = finds_none c.args.finding.now c.args.own.now.items

pub loop-field-preserved : goal.loop-field-preserved
loop-field-preserved c =
    finds_step (λ (x : FieldText). in_reference (attribute_reference x.attribute)) (λ (x : FieldText). mention FieldAttribute (attribute_reference x.attribute) ∷ [])
    c.args.fields.now c.loop-field.field-index c.field-item.result c.loop-field-test.true c.field-item.is
    c.loop-field.invariant
    (finds_one roles.FieldAttribute c.in_ok-target.target (attribute_reference c.field-item.result.attribute)
    (attribute_fits c.field-item.result.attribute) c.in_ok-target.ensures c.in_ok-push.ensures.items)

pub returns : goal.returns
returns c = finds_as (in_fields_row c.args.fields.now) (named_fields c.args.fields.now)
    (finds_end (λ (x : FieldText). in_reference (attribute_reference x.attribute)) (λ (x : FieldText). mention FieldAttribute (attribute_reference x.attribute) ∷ [])
    c.args.fields.now c.loop-field.field-index (omega (arith, c.loop-field-test.false)) c.loop-field.invariant)
