-- JoinedLaws: each property that is joined for a class is whole (X.722, section 8.4).
use Rattle.std.specs.Prelude.{◌≡◌, ℕ, List, Option, true, Contains, IfSome}
use Rattle.std.proofs.Common.{◌∙◌, sym}
use Rattle.std.proofs.Math.Path.{subst}
use Rattle.term_values.specs.Fits.{Fits}
use Rattle.term_values.specs.Soundness.{IsSound}
use Rattle.term_values.specs.Syntaxes.{TypeSyntax}
use Rattle.term_values.specs.Typed.{TypedValue}
use Rattle.term_model.specs.JoinedProperties.{Holds, IsJoined, SomeStates}
use Rattle.term_model.specs.JoinedProperties.Holds.{Inherited, Own}
use Rattle.term_model.specs.WholeRecords.{IsWholeProperty}
use Rattle.term_model.specs.declared.packages.Property.{Property}
use Rattle.term_model.specs.declared.schema.AttrRec.{AttrRec}
use Rattle.linked_parts.specs.declared.linked.LinkedName.{LinkedName}
use Rattle.class_faults.specs.FirstClassFault.{AreFaultless}
use Rattle.class_faults.specs.StatedProperties.{TypeHas}
use Rattle.linked_types.specs.PartIdentifiers.{IsAttributeId}
use Rattle.schema_records.specs.ApartParts.{HaveOwnIdentifiers}
use Rattle.stated_laws.proofs.ListLaws.{all_of_each, each_of_all, if_some, some_of}
use Rattle.stated_laws.proofs.TemplateLaws.{AreRecorded}
use Rattle.stated_laws.proofs.RecordLaws.{HasUse, own_use, record_of}
use Rattle.stated_laws.proofs.TemplateLaws.{template_has, template_of}
use Rattle.stated_laws.proofs.RecordLaws.{states_use}
use Rattle.stated_laws.proofs.PropertyLaws.{IsWholeFor, use_whole}

module _ (m : AreRecorded) (faultless : AreFaultless m.ms m.linked)
    (sound : (name : LinkedName) (syntax : TypeSyntax) → TypeHas m.ms m.linked name syntax → IsSound syntax)
    (apart : HaveOwnIdentifiers m.linked) where
  use_whole_for : {k : ℕ} (x : Property) → HasUse m k x → (template : AttrRec) →
      Contains m.schema.attributes template → template.id ≡ x.attribute → IsWholeFor template.syntax x
  use_whole_for x use_ template known named =
      use_whole m faultless sound x use_ template.syntax (template_has m apart use_.stated.attribute template known
      (subst (IsAttributeId m.linked use_.stated.attribute) (sym named) use_.is.is_attribute))

  -- a value that holds fits
  held_fits : (which : Property → Option TypedValue) (attribute : List ℕ) (template : AttrRec) →
      Contains m.schema.attributes template → template.id ≡ attribute →
      ((x : Property) → IsWholeFor template.syntax x → IfSome (which x) (Fits template.syntax)) →
      {class : List ℕ} {value : TypedValue} → Holds m.schema which attribute class value →
      Fits template.syntax value
  held_fits which attribute template known named part {value = value}
      (Own of_class stated has own same there) =
      let here = record_of m of_class has.known in
      let whole = use_whole_for stated (own_use m here.1 stated own) template known (named ∙ sym same) in
      some_of (Fits template.syntax) (which stated) value (part stated whole) there
  held_fits which attribute template known named part (Inherited of_class has none_states derives further) =
      held_fits which attribute template known named part further

  -- what some package states
  such_whole : {class : List ℕ} (attribute : List ℕ) (such : Property → Type 0) (template : AttrRec) →
      Contains m.schema.attributes template → template.id ≡ attribute →
      (some : SomeStates m.schema class attribute such) → IsWholeFor template.syntax some.0
  such_whole attribute such template known named some =
      use_whole_for some.0 (states_use m some.0 some.1).1 template known (named ∙ sym some.2)

  joined_for : (class : List ℕ) (x : Property) → IsJoined m.schema class x → (template : AttrRec) →
      Contains m.schema.attributes template → template.id ≡ x.attribute → IsWholeFor template.syntax x
  joined_for class x joined template known named = record {
    default = if_some (Fits template.syntax) x.default (λ value there.
        held_fits (λ stated. stated.default) x.attribute template known named (λ y whole. whole.default)
        ((joined.default value).0 there));
    initial = if_some (Fits template.syntax) x.initial (λ value there.
        held_fits (λ stated. stated.initial) x.attribute template known named (λ y whole. whole.initial)
        ((joined.initial value).0 there));
    permitted = all_of_each IsSound x.permitted (λ type there.
        let some = (joined.permitted type).0 there in
        each_of_all IsSound some.0.permitted type
        (such_whole x.attribute (λ stated. Contains stated.permitted type) template known named some).permitted
        some.3);
    add = λ there.
        let some = joined.add.0 there in
        (such_whole x.attribute (λ stated. stated.add ≡ true) template known named some).add some.3;
    remove = λ there.
        let some = joined.remove.0 there in
        (such_whole x.attribute (λ stated. stated.remove ≡ true) template known named some).remove some.3;
  }

  -- what is joined for a class is whole
  pub joined_property_whole : (class : List ℕ) (x : Property) → IsJoined m.schema class x →
      IsWholeProperty m.schema x
  joined_property_whole class x joined =
      let found = states_use m joined.stated.0 joined.stated.1 in
      let template = template_of m found.1.stated.attribute joined.stated.0.attribute found.1.is.is_attribute in
      let named = template.named ∙ joined.stated.2 in
      let whole = joined_for class x joined template.x template.known named in record {
        template = template.x;
        known = template.known;
        named = named;
        default = whole.default;
        initial = whole.initial;
        permitted = whole.permitted;
        add = whole.add;
        remove = whole.remove;
      }
