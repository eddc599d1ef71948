-- ValueLaws: the values of rules fit the syntaxes for which they stand: those of attributes, of the information of
-- notifications and of the replies of actions (docs/PROFILE.md, sections 9 and 18).
use Rattle.std.specs.Prelude.{◌≡◌, ℕ, List, Option, None, Some, IfSome, refl}
use Rattle.std.proofs.Math.Path.{subst}
use Rattle.asn1_values_syntax.specs.ValueTrees.{value_tree}
use Rattle.asn1_values_syntax.specs.declared.value.ValueText.{ValueText}
use Rattle.term_values.specs.Fits.{Fits}
use Rattle.term_values.specs.Soundness.{IsSound}
use Rattle.term_values.specs.Syntaxes.{TypeSyntax}
use Rattle.term_values.specs.Typed.{TypedValue}
use Rattle.term_model.specs.WholeRecords.{IsValueOf}
use Rattle.term_model.specs.WholeSet.{FitsType}
use Rattle.term_model.specs.declared.schema.Set.{Set}
use Rattle.asn1_names.specs.ModuleTerms.{ModuleTerm}
use Rattle.asn1_leaf_values.specs.TextValues.{said}
use Rattle.linked_parts.specs.declared.linked.Linked.{Linked}
use Rattle.linked_parts.specs.declared.linked.LinkedName.{LinkedName}
use Rattle.filled_syntaxes.specs.LinkedMeanings.{linked_arcs, linked_meaning}
use Rattle.filled_syntaxes.specs.SaidTexts.{DenotesValue}
use Rattle.filled_syntaxes.proofs.FilledLaws.{has_once}
use Rattle.class_faults.specs.AttributeSyntaxes.{AttributeHas}
use Rattle.class_faults.specs.AttributeSyntaxes.AttributeHas.{of_base, of_type}
use Rattle.class_faults.specs.StatedProperties.{TypeHas}
use Rattle.linked_types.specs.PartIdentifiers.{IsAttributeId}
use Rattle.linked_types.proofs.SyntaxLaws.{one_syntax}
use Rattle.section_values.specs.SectionRecords.{IsEmitted, IsValueFor, IsValueOfType}
use Rattle.schema_records.specs.MemberRecords.{AreRecords, IsOptionalType}
use Rattle.sound_laws.specs.ShortDefaults.{ValuesFit}
use Rattle.reference_laws.proofs.ReferenceLaws.{attribute_there}
use Rattle.rule_laws.specs.ShortRules.{IsShortOfType, IsShortText}

module _ (ms : List ModuleTerm) (linked : Linked) (fit : ValuesFit (linked_arcs linked))
    (sound : (name : LinkedName) (syntax : TypeSyntax) → TypeHas ms linked name syntax → IsSound syntax) where
  -- what a text denotes in one of the syntaxes that are asked for, which are one, fits it
  text_fits : (Has : TypeSyntax → Type 0) → ((syntax : TypeSyntax) → Has syntax → IsSound syntax) →
      ((one other : TypeSyntax) → Has one → Has other → one ≡ other) → (text : ValueText) (value : TypedValue) →
      IsShortText linked Has text → (syntax other : TypeSyntax) → Has syntax → Has other →
      DenotesValue (linked_arcs linked) syntax (value_tree text) value → Fits other value
  text_fits Has are_sound once text value short syntax other has also denotes =
      subst (λ s. Fits s value) (once syntax other has also)
      (fit syntax (said denotes.text) value denotes.denotes (are_sound syntax has).1
      (short syntax has value denotes))

  -- ---- attributes

  attribute_sound : {k : ℕ} (syntax : TypeSyntax) → AttributeHas ms linked k syntax → IsSound syntax
  attribute_sound syntax (of_type {name = name} at is has) = sound name syntax has
  attribute_sound syntax (of_base at is has) = attribute_sound syntax has

  pub value_whole : (schema : Set) → AreRecords ms linked schema → (k : ℕ) (id : List ℕ) (text : ValueText)
      (value : TypedValue) → IsAttributeId linked k id → IsShortText linked (AttributeHas ms linked k) text →
      IsValueFor ms linked k text value → IsValueOf schema id value
  value_whole schema are k id text value named short is =
      let there = attribute_there ms linked schema are k id named in record {
        template = there.template;
        known = there.known;
        named = there.named;
        fits = text_fits (AttributeHas ms linked k) attribute_sound (one_syntax ms linked k) text value short is.0
            there.template.syntax is.1 there.of_place.has is.2;
      }

  -- ---- types of information and reply

  pub type_fits : (type : Option LinkedName) (own : Option TypeSyntax) (text : ValueText) (value : TypedValue) →
      IsShortOfType ms linked type text → IsOptionalType ms linked type own →
      IsValueOfType ms linked type text value → FitsType own value
  type_fits None own text value short has is = absurd is
  type_fits (Some name) None text value short has is = absurd has
  type_fits (Some name) (Some syntax) text value short has is = (
    syntax,
    refl,
    text_fits (TypeHas ms linked name) (sound name)
        (λ one other h k. has_once ms (linked_arcs linked) (linked_meaning ms name.meaning) h k) text value short
        is.0 syntax is.1 has is.2,
  )

  -- a value that is emitted, where one is
  pub emitted_fits : (type : Option LinkedName) (own : Option TypeSyntax) (text : Option ValueText)
      (value : Option TypedValue) → IfSome text (IsShortOfType ms linked type) → IsOptionalType ms linked type own →
      IsEmitted ms linked type text value → IfSome value (FitsType own)
  emitted_fits type own None None short has is = tt
  emitted_fits type own None (Some value) short has is = absurd is
  emitted_fits type own (Some text) None short has is = absurd is
  emitted_fits type own (Some text) (Some value) short has is = type_fits type own text value short has is
