-- IntegerLaws: where each attribute is of INTEGER, no type has a DEFAULT and there are no rules, each value that the
-- documents give is short, whatever number it is, and no tag stands for the end of contents (X.690, sections 8.1.2,
-- 8.1.3 and 8.3).
use Rattle.std.specs.Prelude.{◌≡◌, ◌≤◌, ℕ, List, Option, None, true, false, All, length, refl}
use Rattle.std.proofs.Common.{arith, sym}
use Rattle.std.proofs.Math.Path.{subst}
use Rattle.std.proofs.lemmas.List.Elements.{All-nil}
use Rattle.term_values.specs.Syntaxes.{TypeSyntax}
use Rattle.term_values.specs.TreeTags.{due}
use Rattle.term_values.specs.Typed.{TypedValue}
use Rattle.term_values.specs.Typed.TypedValue.{Truth, Int, Bits, Octets, Null, Identifier, Text, Time, Parts, Many}
use Rattle.term_values.specs.Typed.TypedValue.{Pick, Raw}
use Rattle.term_values.specs.UniversalTags.{integer as integer_tag}
use Rattle.term_values.specs.ValueContents.{whole_contents}
use Rattle.term_model.specs.declared.schema.AttrRec.{AttrRec}
use Rattle.term_model.specs.declared.schema.Set.{Set}
use Rattle.typed_laws.specs.SyntaxTags.{has_tags}
use Rattle.asn1_names.specs.ModuleTerms.{ModuleTerm}
use Rattle.linked_parts.specs.declared.linked.Linked.{Linked}
use Rattle.linked_parts.specs.declared.linked.LinkedName.{LinkedName}
use Rattle.linked_parts.specs.declared.linked.LinkedPackage.{LinkedPackage}
use Rattle.linked_parts.specs.declared.linked.LinkedPair.{LinkedPair}
use Rattle.linked_parts.specs.declared.linked.LinkedUse.{LinkedUse}
use Rattle.filled_syntaxes.specs.LinkedMeanings.{linked_arcs}
use Rattle.class_faults.specs.AttributeSyntaxes.{AttributeHas}
use Rattle.schema_records.specs.MemberRecords.{AreRecords}
use Rattle.sound_laws.specs.ShortDefaults.{AreShortDefaults, IsShort}
use Rattle.stated_laws.proofs.ListLaws.{all_of_each}
use Rattle.stated_laws.proofs.TemplateLaws.{AreRecorded, attribute_of}
use Rattle.instance_laws.specs.ShortInstances.{AreShortInstances, IsShortInstance, IsShortPair}
use Rattle.rule_laws.specs.ShortRules.{AreShortRules, IsShortRule}
use Rattle.whole_laws.specs.ShortValues.{AreShortValues}
use Rattle.opening_laws.proofs.EncodingLengths.{encoded_short, whole_contents_short}
use Rattle.accepted_schemas.specs.IntegerDocuments.{AreIntegerDocuments, IsInteger}
use Rattle.accepted_schemas.specs.IntegerDocuments.IsInteger.{integer}
use Rattle.accepted_schemas.specs.ShortStated.{AreShortStated, IsShortNamed, IsShortUse}

-- ---- INTEGER

-- a number takes 8 octets at most, and what is no number takes none
contents_few : (value : TypedValue) → length (whole_contents value) ≤ 8
contents_few (Int n) = whole_contents_short n
contents_few (Truth holds) = omega arith
contents_few (Bits octets unused) = omega arith
contents_few (Octets octets) = omega arith
contents_few Null = omega arith
contents_few (Identifier arcs) = omega arith
contents_few (Text octets) = omega arith
contents_few (Time octets) = omega arith
contents_few (Parts slots) = omega arith
contents_few (Many values) = omega arith
contents_few (Pick index value) = omega arith
contents_few (Raw octets) = omega arith

integer_short : (syntax : TypeSyntax) (value : TypedValue) → IsInteger syntax → IsShort syntax value
integer_short _ value (integer {names = names} {ranges = ranges}) =
    let few = contents_few value in
    let header = encoded_short false (due None integer_tag) (whole_contents value) in
    omega (arith, few, header)

integer_tags : (syntax : TypeSyntax) → IsInteger syntax → has_tags syntax ≡ true
integer_tags _ integer = refl

-- ---- documents

module _ (ms : List ModuleTerm) (linked : Linked) (integers : AreIntegerDocuments ms linked) where
  attribute_short : (k : ℕ) (syntax : TypeSyntax) → AttributeHas ms linked k syntax → (value : TypedValue) →
      IsShort syntax value
  attribute_short k syntax has value = integer_short syntax value (integers.attributes k syntax has)

  pairs_short : (pairs : List LinkedPair) → All (IsShortPair ms linked) pairs
  pairs_short pairs = all_of_each (IsShortPair ms linked) pairs
      (λ pair listed syntax has value denotes. attribute_short pair.attribute syntax has value)

  instances_short : AreShortInstances ms linked
  instances_short = all_of_each (IsShortInstance ms linked) linked.instances.items
      (λ part listed. (pairs_short part.name.items, pairs_short part.given.items))

  named_short : (attribute : ℕ) (named : Option LinkedName) → IsShortNamed ms linked attribute named
  named_short attribute named = λ name is syntax has value own. attribute_short attribute syntax has value

  use_short : (stated : LinkedUse) → IsShortUse ms linked stated
  use_short stated = record {
    default = named_short stated.attribute stated.default_value;
    initial = named_short stated.attribute stated.initial_value;
  }

  pub integers_stated : AreShortStated ms linked
  integers_stated = all_of_each (λ (part : LinkedPackage). All (IsShortUse ms linked) part.attributes.items)
      linked.packages.items
      (λ part listed. all_of_each (IsShortUse ms linked) part.attributes.items (λ stated own. use_short stated))

  defaults_short : AreShortDefaults ms (linked_arcs linked)
  defaults_short = λ m i syntax filled path component is v text stands value denotes.
      absurd (integers.no_defaults m i v path text stands)

  rules_short : AreShortRules ms linked
  rules_short = subst (All (IsShortRule ms linked)) (sym integers.no_rules) (All-nil (IsShortRule ms linked))

  -- what is asked that the schema be whole
  pub integers_short : AreShortValues ms linked
  integers_short = record { defaults = defaults_short; rules = rules_short; instances = instances_short }

  pub integers_tags : (schema : Set) → AreRecords ms linked schema →
      All (λ (template : AttrRec). has_tags template.syntax ≡ true) schema.attributes
  integers_tags schema are = all_of_each (λ (template : AttrRec). has_tags template.syntax ≡ true) schema.attributes
      (λ template known.
      let found = attribute_of recorded template known in
      integer_tags template.syntax (integers.attributes found.0 template.syntax found.1.has))
    where
      recorded : AreRecorded
      recorded = record { ms = ms; linked = linked; schema = schema; are = are }
