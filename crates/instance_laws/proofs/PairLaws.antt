-- PairLaws: what a pair of an instance states is whole: a part of a name, or a value of an attribute.
use Rattle.std.specs.Prelude.{ℕ, List}
use Rattle.std.proofs.Common.{◌∙◌, ap}
use Rattle.std.proofs.Math.Path.{subst}
use Rattle.asn1_values_syntax.specs.ValueTrees.{value_tree}
use Rattle.term_values.specs.Fits.{Fits}
use Rattle.term_values.specs.Soundness.{IsSound}
use Rattle.term_values.specs.Syntaxes.{TypeSyntax}
use Rattle.term_values.specs.Typed.{TypedValue}
use Rattle.term_values.specs.Written.{der}
use Rattle.term_model.specs.WholeRecords.{IsValueOf}
use Rattle.term_model.specs.WholeSet.{IsWholePart}
use Rattle.term_model.specs.declared.name.Rdn.{Rdn}
use Rattle.term_model.specs.declared.object.Attribute.{Attribute}
use Rattle.term_model.specs.declared.schema.Set.{Set}
use Rattle.asn1_names.specs.ModuleTerms.{ModuleTerm}
use Rattle.asn1_leaf_values.specs.TextValues.{said}
use Rattle.linked_parts.specs.declared.linked.Linked.{Linked}
use Rattle.linked_parts.specs.declared.linked.LinkedPair.{LinkedPair}
use Rattle.filled_syntaxes.specs.LinkedMeanings.{linked_arcs}
use Rattle.filled_syntaxes.specs.SaidTexts.{DenotesValue}
use Rattle.class_faults.specs.AttributeSyntaxes.{AttributeHas}
use Rattle.linked_types.proofs.SyntaxLaws.{one_syntax}
use Rattle.schema_records.specs.MemberRecords.{AreRecords}
use Rattle.sound_laws.specs.ShortDefaults.{ValuesFit}
use Rattle.instance_records.specs.InstanceRecords.{IsGiven, IsPart}
use Rattle.reference_laws.proofs.ReferenceLaws.{attribute_there}
use Rattle.instance_laws.specs.ShortInstances.{IsShortPair}

module _ (ms : List ModuleTerm) (linked : Linked) (schema : Set) (are : AreRecords ms linked schema)
    (fit : ValuesFit (linked_arcs linked))
    (sound : (k : ℕ) (syntax : TypeSyntax) → AttributeHas ms linked k syntax → IsSound syntax) where
  -- what the text of a pair denotes fits the syntax of its attribute
  pair_fits : (pair : LinkedPair) (syntax other : TypeSyntax) (value : TypedValue) → IsShortPair ms linked pair →
      AttributeHas ms linked pair.attribute syntax → AttributeHas ms linked pair.attribute other →
      DenotesValue (linked_arcs linked) syntax (value_tree pair.value) value → Fits other value
  pair_fits pair syntax other value short has also denotes =
      subst (λ s. Fits s value) (one_syntax ms linked pair.attribute syntax other has also)
      (fit syntax (said denotes.text) value denotes.denotes (sound pair.attribute syntax has).1
      (short syntax has value denotes))

  pub part_whole : (pair : LinkedPair) (part : Rdn) → IsShortPair ms linked pair → IsPart ms linked pair part →
      IsWholePart schema part
  part_whole pair part short is =
      let there = attribute_there ms linked schema are pair.attribute part.attribute is.is_attribute in
      let own = there.of_place.has in (
        is.denoted,
        (
          there.template,
          there.known,
          there.named,
          pair_fits pair is.syntax there.template.syntax is.denoted short is.has own is.denotes,
          is.is_written ∙ ap (λ s. der s is.denoted)
              (one_syntax ms linked pair.attribute is.syntax there.template.syntax is.has own),
        ),
      )

  pub given_value : (pair : LinkedPair) (held : Attribute) → IsShortPair ms linked pair →
      IsGiven ms linked pair held → IsValueOf schema held.id held.value
  given_value pair held short is =
      let there = attribute_there ms linked schema are pair.attribute held.id is.is_attribute in
      let value = is.is_value in record {
        template = there.template;
        known = there.known;
        named = there.named;
        fits = pair_fits pair value.0 there.template.syntax held.value short value.1 there.of_place.has value.2;
      }
