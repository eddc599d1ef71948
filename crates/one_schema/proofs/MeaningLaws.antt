-- MeaningLaws: what linked parts name is one: an identifier, a syntax, a value (X.722, section 8; X.680, sections 13
-- and 17).
use Rattle.std.specs.Prelude.{◌≡◌, ℕ, List, Option, None, Some, refl}
use Rattle.std.proofs.Common.{◌∙◌, ap, sym}
use Rattle.std.proofs.Math.Path.{subst}
use Rattle.std.proofs.lemmas.Option.{same_Some}
use Rattle.asn1_values_syntax.specs.ValueTrees.{value_tree}
use Rattle.asn1_values_syntax.specs.declared.value.ValueText.{ValueText}
use Rattle.term_values.specs.Syntaxes.{TypeSyntax}
use Rattle.term_values.specs.Typed.{TypedValue}
use Rattle.asn1_names.specs.ModuleTerms.{ModuleTerm}
use Rattle.asn1_leaf_values.specs.Arcs.{NamedArcs}
use Rattle.linked_parts.specs.declared.linked.Linked.{Linked}
use Rattle.linked_parts.specs.declared.linked.LinkedHead.{LinkedHead}
use Rattle.linked_parts.specs.declared.linked.LinkedName.{LinkedName}
use Rattle.filled_syntaxes.specs.LinkedMeanings.{AssignsValue, linked_arcs, linked_meaning}
use Rattle.filled_syntaxes.specs.LinkedMeanings.AssignsValue.{assigned}
use Rattle.filled_syntaxes.specs.SaidTexts.{DenotesValue}
use Rattle.filled_syntaxes.proofs.FilledLaws.{has_once}
use Rattle.filled_syntaxes.proofs.SaidLaws.{one_value}
use Rattle.class_faults.specs.StatedProperties.{HasValue, TypeHas}
use Rattle.linked_types.specs.PartIdentifiers.{AreIdentified, IsAttributeId, IsClassId, IsIdentified}
use Rattle.linked_types.proofs.SyntaxLaws.{one_syntax}
use Rattle.section_values.specs.SectionRecords.{IsEmitted, IsValueFor, IsValueOfType}
use Rattle.schema_records.specs.ClassRecords.{IsOptionalValue, IsRegistered}
use Rattle.schema_records.specs.MemberRecords.{IsOptionalType}
use Rattle.one_schema.proofs.OnceLaws.{HasOne, one_each}

-- ---- identifiers and labels

pub one_identifier : {L : Type 0} (head : L → LinkedHead) (xs : List L) → HasOne (IsIdentified head xs)
one_identifier head xs k one other is also = same_Some one other (sym is ∙ also)

pub one_identifiers : {L : Type 0} (head : L → LinkedHead) (xs : List L) → HasOne (AreIdentified head xs)
one_identifiers head xs = one_each (IsIdentified head xs) (one_identifier head xs)

pub one_class : (linked : Linked) → HasOne (IsClassId linked)
one_class linked = one_identifier (λ x. x.head) linked.classes.items

pub one_attribute : (linked : Linked) → HasOne (IsAttributeId linked)
one_attribute linked = one_identifier (λ x. x.head) linked.attributes.items

module _ {head : LinkedHead} {id further label other : List ℕ} (is : IsRegistered head id label)
    (also : IsRegistered head further other) where
  pub registered_id : id ≡ further
  registered_id = same_Some id further (sym is.is_id ∙ also.is_id)

  pub registered_label : label ≡ other
  registered_label = sym is.is_label ∙ also.is_label

-- ---- types and values

-- a name is assigned one value
assigned_once : (ms : List ModuleTerm) (names : NamedArcs) → HasOne (AssignsValue ms names)
assigned_once ms names meant one other (assigned {text = text} filled denotes) (assigned {syntax = again} also tells) =
    one_value names again text
    (subst (λ s. DenotesValue names s text one) (has_once ms names meant filled also) denotes) tells

module _ (ms : List ModuleTerm) (linked : Linked) where
  pub one_type : HasOne (TypeHas ms linked)
  one_type name one other = has_once ms (linked_arcs linked) (linked_meaning ms name.meaning)

  pub one_optional_type : HasOne (IsOptionalType ms linked)
  one_optional_type None None None is also = refl
  one_optional_type None None (Some other) is also = absurd also
  one_optional_type None (Some one) other is also = absurd is
  one_optional_type (Some name) None other is also = absurd is
  one_optional_type (Some name) (Some one) None is also = absurd also
  one_optional_type (Some name) (Some one) (Some other) is also = ap Some (one_type name one other is also)

  pub one_named_value : HasOne (HasValue ms linked)
  one_named_value name = assigned_once ms (linked_arcs linked) (linked_meaning ms name.meaning)

  pub one_optional_value : HasOne (IsOptionalValue ms linked)
  one_optional_value None None None is also = refl
  one_optional_value None None (Some other) is also = absurd also
  one_optional_value None (Some one) other is also = absurd is
  one_optional_value (Some name) None other is also = absurd is
  one_optional_value (Some name) (Some one) None is also = absurd also
  one_optional_value (Some name) (Some one) (Some other) is also = ap Some (one_named_value name one other is also)

  -- a text denotes one value, in syntaxes that are one
  pub one_denoted : (text : ValueText) (syntax again : TypeSyntax) (one other : TypedValue) → syntax ≡ again →
      DenotesValue (linked_arcs linked) syntax (value_tree text) one →
      DenotesValue (linked_arcs linked) again (value_tree text) other → one ≡ other
  one_denoted text syntax again one other same is =
      one_value (linked_arcs linked) again (value_tree text)
      (subst (λ s. DenotesValue (linked_arcs linked) s (value_tree text) one) same is)

  pub one_value_for : (k : ℕ) → HasOne (IsValueFor ms linked k)
  one_value_for k text one other is also =
      one_denoted text is.0 also.0 one other (one_syntax ms linked k is.0 also.0 is.1 also.1) is.2 also.2

  pub one_value_of_type : (name : Option LinkedName) → HasOne (IsValueOfType ms linked name)
  one_value_of_type None text one other is also = absurd is
  one_value_of_type (Some name) text one other is also =
      one_denoted text is.0 also.0 one other (one_type name is.0 also.0 is.1 also.1) is.2 also.2

  pub one_emitted : (name : Option LinkedName) → HasOne (IsEmitted ms linked name)
  one_emitted name None None None is also = refl
  one_emitted name None None (Some other) is also = absurd also
  one_emitted name None (Some one) other is also = absurd is
  one_emitted name (Some text) None other is also = absurd is
  one_emitted name (Some text) (Some one) None is also = absurd also
  one_emitted name (Some text) (Some one) (Some other) is also =
      ap Some (one_value_of_type name text one other is also)
