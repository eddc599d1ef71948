-- WholeLaws: the actions and the notifications of the schema of linked parts are whole, where nothing is wrong with the
-- modules, the references and the classes (X.722, sections 8.10 and 8.11; docs/PROFILE.md, section 9).
use Rattle.std.specs.Prelude.{◌≡◌, List, Option, None, Some, All, IfSome, refl}
use Rattle.std.proofs.Common.{sym}
use Rattle.std.proofs.Math.Path.{subst}
use Rattle.std.proofs.lemmas.List.Elements.{All-contains}
use Rattle.term_values.specs.MatchingKinds.{beneath_tags}
use Rattle.term_values.specs.Soundness.{IsSound}
use Rattle.term_values.specs.Syntaxes.{TypeSyntax}
use Rattle.term_model.specs.WholeRecords.{HasField, IsWholeAction, IsWholeField, IsWholeNotification}
use Rattle.term_model.specs.declared.actions.AttributeField.{AttributeField}
use Rattle.term_model.specs.declared.actions.NoteRec.{NoteRec}
use Rattle.term_model.specs.declared.schema.Set.{Set}
use Rattle.asn1_names.specs.FirstModuleFault.{AreFaultless as AreModulesFaultless}
use Rattle.asn1_names.specs.ModuleTerms.{ModuleTerm}
use Rattle.asn1_names.specs.TermViews.{module_terms}
use Rattle.gdmo_names.specs.FirstLabelFault.{AreFaultless as AreLabelsFaultless}
use Rattle.gdmo_names.specs.PartTerms.{PartTerms, module_terms_of}
use Rattle.gdmo_names.specs.PartViews.{part_terms}
use Rattle.gdmo_names.specs.declared.parsed.Parsed.{Parsed}
use Rattle.linked_parts.specs.declared.linked.Linked.{Linked}
use Rattle.linked_parts.specs.declared.linked.LinkedField.{LinkedField}
use Rattle.linked_parts.specs.declared.linked.LinkedName.{LinkedName}
use Rattle.linked_documents.specs.LinkedParts.{AreLinkedParts}
use Rattle.filled_syntaxes.specs.LinkedMeanings.{linked_arcs, linked_meaning}
use Rattle.class_faults.specs.FirstClassFault.{AreFaultless}
use Rattle.class_faults.specs.StatedProperties.{TypeHas}
use Rattle.linked_types.specs.PartIdentifiers.{AreEach}
use Rattle.schema_records.specs.MemberRecords.{AreRecords, IsAction, IsField, IsNotification, IsOptionalType}
use Rattle.sound_laws.specs.GivenMeanings.{HaveAlternatives}
use Rattle.sound_laws.specs.ShortDefaults.{AreShortDefaults, ValuesFit}
use Rattle.sound_laws.proofs.SoundLaws.{filled_sound, linked_given}
use Rattle.reference_laws.proofs.PlaceLaws.{all_made}
use Rattle.reference_laws.proofs.ReferenceLaws.{attribute_there}
use Rattle.alike_laws.specs.InformationFields.{HaveInformation}
use Rattle.alike_laws.proofs.FieldLaws.{AreLinkedFields, IsLinkedField, notifications_linked}
use Rattle.alike_laws.proofs.InformationLaws.{have_information}
use Rattle.alike_laws.proofs.TypeLaws.{modules_same}

module _ (ms : List ModuleTerm) (linked : Linked) (schema : Set) (records : AreRecords ms linked schema)
    (fit : ValuesFit (linked_arcs linked)) (modules : AreModulesFaultless ms) (have : HaveAlternatives ms)
    (short : AreShortDefaults ms (linked_arcs linked)) where
  -- the syntax of a type that is stated is sound
  type_sound : (stated : Option LinkedName) (type : Option TypeSyntax) → IsOptionalType ms linked stated type →
      IfSome type IsSound
  type_sound None None is = tt
  type_sound None (Some syntax) is = absurd is
  type_sound (Some name) None is = absurd is
  type_sound (Some name) (Some syntax) is = filled_sound ms (linked_arcs linked) (linked_meaning ms name.meaning) syntax
      fit modules have short (linked_given ms name.meaning) is

  pub actions_whole : All IsWholeAction schema.actions
  actions_whole = all_made (IsAction ms linked) IsWholeAction linked.actions.items schema.actions
      (λ part x stands is. record {
        information = type_sound part.information x.information is.is_information;
        reply = type_sound part.reply x.reply is.is_reply;
      }) records.actions_are

  -- ---- notifications

  -- a field of the record
  abbrev IsWholeIn : NoteRec → AttributeField → Type 0
  IsWholeIn x field = (information : TypeSyntax) × (x.information ≡ Some information)
      × IsWholeField schema information field

  field_whole : (stated : Option LinkedName) (x : NoteRec) (type : Option TypeSyntax) → x.information ≡ type →
      IsOptionalType ms linked stated type → (part : LinkedField) (field : AttributeField) → IsField linked part field →
      IsLinkedField ms linked stated part → IsWholeIn x field
  field_whole None x type same is part field told of = absurd (let states = of.states in cc)
  field_whole (Some name) x None same is part field told of = absurd is
  field_whole (Some name) x (Some syntax) same is part field told of =
      let there = attribute_there ms linked schema records part.attribute field.attribute told.is_attribute in
      let type = subst (λ (n : LinkedName). TypeHas ms linked n syntax) (one_name of.states) is in (
        syntax,
        same,
        record {
          template = there.template;
          known = there.known;
          named = there.named;
          there = subst (λ n. HasField (beneath_tags syntax) n there.template.syntax) told.is_component
              (of.there syntax there.template.syntax type there.of_place.has);
        },
      )
    where
      one_name : {other : LinkedName} → Some name ≡ Some other → name ≡ other
      one_name e = cc

  fields_whole : (x : NoteRec) (stated : Option LinkedName) → IsOptionalType ms linked stated x.information →
      (parts : List LinkedField) (fields : List AttributeField) → AreEach (IsField linked) parts fields →
      All (IsLinkedField ms linked stated) parts → All (IsWholeIn x) fields
  fields_whole x stated is parts fields each linked_fields = all_made (IsField linked) (IsWholeIn x) parts fields
      (λ part field has told. field_whole stated x x.information refl is part field told
      (All-contains (IsLinkedField ms linked stated) parts part linked_fields has)) each

  notifications_by : All (AreLinkedFields ms linked) linked.notifications.items →
      All (IsWholeNotification schema) schema.notifications
  notifications_by fields = all_made (IsNotification ms linked) (IsWholeNotification schema) linked.notifications.items
      schema.notifications (λ part x has is. record {
        information = type_sound part.information x.information is.is_information;
        reply = type_sound part.reply x.reply is.is_reply;
        fields = fields_whole x part.information is.is_information part.fields.items x.fields is.fields_are
            (All-contains (AreLinkedFields ms linked) linked.notifications.items part fields has);
      }) records.notifications_are

  notifications_of : (parts : PartTerms) → module_terms_of parts ≡ ms → AreLinkedParts parts linked →
      AreLabelsFaultless parts → HaveInformation parts → AreFaultless ms linked →
      All (IsWholeNotification schema) schema.notifications
  notifications_of parts same are labels informed faultless =
      let here = subst (λ zs. AreFaultless zs linked) (sym same) faultless in
      notifications_by (subst (λ zs. All (AreLinkedFields zs linked) linked.notifications.items) same
      (notifications_linked parts linked are labels here informed))

-- of parts that were read
pub notifications_whole : (parts : Parsed) (linked : Linked) (schema : Set) →
    AreRecords (module_terms parts.modules.items) linked schema → ValuesFit (linked_arcs linked) →
    AreModulesFaultless (module_terms parts.modules.items) → HaveAlternatives (module_terms parts.modules.items) →
    AreShortDefaults (module_terms parts.modules.items) (linked_arcs linked) →
    AreLinkedParts (part_terms parts) linked → AreLabelsFaultless (part_terms parts) →
    AreFaultless (module_terms parts.modules.items) linked → All (IsWholeNotification schema) schema.notifications
notifications_whole parts linked schema records fit modules have short are labels faultless =
    notifications_of (module_terms parts.modules.items) linked schema records fit modules have short (part_terms parts)
    (modules_same parts) are labels (have_information parts) faultless
