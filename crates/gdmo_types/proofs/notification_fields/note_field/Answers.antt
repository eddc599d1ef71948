-- The attribute that the field names, or none.
use Rattle.std.proofs.Math.Path.{subst}
use Rattle.key_numbers.specs.ComponentKeys.{component_key}
use Rattle.type_numbers.proofs.AskedLaws.{number_stays}
use Rattle.gdmo_names.specs.PartTerms.{module_terms_of}
use Rattle.gdmo_names.specs.TypeMeaning.{qualified_meaning}
use Rattle.gdmo_types.specs.FieldFaults.{TellsPart, field_mention}
use Rattle.gdmo_types.specs.RoleTargets.{MeansNumber}
use Rattle.gdmo_types.proofs.FieldLaws.{field_noted}
use Rattle.gdmo_types.proofs.notification_fields.note_field.Goals as goal

pub returns-clause-noted : goal.returns-clause-noted
returns-clause-noted c = λ parts information is are numbered means.
    let ms = module_terms_of parts in
    let field = c.args.field.now in
    let between = c.attribute_type.new.numbers.lists in
    let after = c.component_type.new.numbers.lists in
    let first = c.attribute_type.ensures.stays ms are in
    let last = c.component_type.ensures.stays ms first.are_numbers in
    let meant = subst (MeansNumber parts c.args.linkage.now.templates.now c.args.document (field_mention field))
    c.in-Some.is means in
    field_noted parts between after c.args.document information field meant.0 c.args.whole c.in_ok-own.own
    c.in_ok-component.component last.are_numbers.once last.grows
    (number_stays ms c.args.numbers.now.lists between (qualified_meaning ms information) c.args.whole first.grows
    numbered) meant.2 (c.in_ok-own.ensures.told parts meant.0 is are meant.1)
    (λ key has. subst (λ name. TellsPart after (component_key name key) c.in_ok-component.component)
    c.as_slice.ensures (c.in_ok-component.ensures.told key has)) c.note_other.ensures
