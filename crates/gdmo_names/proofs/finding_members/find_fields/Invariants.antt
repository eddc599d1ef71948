use Rattle.std.proofs.Common.{[], ◌∷◌, take}
use Rattle.std.specs.Prelude.{flat_map}
use Rattle.gdmo_members.specs.declared.notification.Field.{Field as FieldText}
use Rattle.gdmo_names.specs.DocumentTemplates.{in_reference}
use Rattle.gdmo_names.specs.MemberViews.{attribute_reference}
use Rattle.gdmo_names.specs.Mentions.{mention}
use Rattle.gdmo_names.specs.Mentions.Role.{FieldAttribute}
use Rattle.gdmo_names.specs.FindingSteps.{Finds}
use Rattle.gdmo_names.proofs.finding_members.find_fields.Given as goal

abbrev pub invariant-loop-field : goal.invariant-loop-field
invariant-loop-field l = Finds l.initial.finding l.finding l.initial.own.items l.own.items
    (flat_map (λ (x : FieldText). in_reference (attribute_reference x.attribute)) (take l.field-index l.fields))
    (flat_map (λ (x : FieldText). mention FieldAttribute (attribute_reference x.attribute) ∷ []) (take l.field-index l.fields))
