-- TermViews: what the texts of modules say, as the terms of ModuleTerms (X.680, sections 13 to 17; X.208, sections 20
-- to 28; docs/PROFILE.md, section 8).
use Rattle.std.specs.Prelude.{[], ◌∷◌, List, Bool, false, Option, None, Some, map, option_map, is_some, codes}
use Rattle.std.specs.Prelude.{if◌then◌else◌}
use Rattle.std.specs.declared.alloc.Global.{Global}
use Rattle.std.specs.declared.boxed.Box.{Box}
use Rattle.std.specs.declared.vec.Vec.{Vec}
use Rattle.token_grammar.specs.declared.token.Token.{Token}
use Rattle.token_grammar.specs.TokenTests.{is_number, is_word_of}
use Rattle.asn1_values_syntax.specs.declared.constraint.Constraint.{Constraint}
use Rattle.asn1_values_syntax.specs.declared.constraint.Constraint.TheVariants.{Size, Values}
use Rattle.asn1_values_syntax.specs.declared.constraint.Range.{Range}
use Rattle.asn1_values_syntax.specs.declared.named_number.NamedBit.{NamedBit}
use Rattle.asn1_values_syntax.specs.declared.named_number.NamedInteger.{NamedInteger}
use Rattle.asn1_values_syntax.specs.declared.numbers.Bound.{Bound}
use Rattle.asn1_values_syntax.specs.declared.numbers.Bound.TheVariants.{Number, Name}
use Rattle.asn1_values_syntax.specs.declared.numbers.SignedNumber.{SignedNumber}
use Rattle.asn1_values_syntax.specs.declared.tag.Tag.{Tag}
use Rattle.asn1_values_syntax.specs.declared.value.NamedValue.TheVariants.{Name as NameAlone, Choice' as ChosenValue}
use Rattle.asn1_values_syntax.specs.declared.value.ValueText.{ValueText}
use Rattle.asn1_values_syntax.specs.declared.value.ValueText.TheVariants.{Literal, Number as ANumber, Named as ANamed}
use Rattle.asn1_values_syntax.specs.declared.value.ValueText.TheVariants.{Braces}
use Rattle.asn1_values_syntax.specs.ValueTrees.{value_tree}
use Rattle.asn1_syntax.specs.declared.module.Assigned.{Assigned}
use Rattle.asn1_syntax.specs.declared.module.Assigned.TheVariants.{OfType, OfValue}
use Rattle.asn1_syntax.specs.declared.module.Assignment.{Assignment}
use Rattle.asn1_syntax.specs.declared.module.ImportedSymbols.{ImportedSymbols}
use Rattle.asn1_syntax.specs.declared.module.Imports.{Imports}
use Rattle.asn1_syntax.specs.declared.module.Module.{Module}
use Rattle.asn1_syntax.specs.declared.plain_type.PlainType.{PlainType}
use Rattle.asn1_syntax.specs.declared.plain_type.PlainType.TheVariants as plain
use Rattle.asn1_syntax.specs.declared.presence.Presence.{Presence}
use Rattle.asn1_syntax.specs.declared.presence.Presence.TheVariants.{Optional, Default}
use Rattle.asn1_syntax.specs.declared.type_text.StructureText.{StructureText, Row_of-Component, end_of-Component}
use Rattle.asn1_syntax.specs.declared.type_text.StructureText.{more_of-Component, Held-StructureText-Components-0}
use Rattle.asn1_syntax.specs.declared.type_text.StructureText.{None' as NoRow, Some' as ARow}
use Rattle.asn1_syntax.specs.declared.type_text.StructureText.TheVariants.{Components', ListOf'}
use Rattle.asn1_syntax.specs.declared.type_text.TypeText.{TypeText, Row_of-Alternative, end_of-Alternative}
use Rattle.asn1_syntax.specs.declared.type_text.TypeText.{more_of-Alternative}
use Rattle.asn1_syntax.specs.declared.type_text.TypeText.TheVariants.{Tagged', Structured, Choice', Plain as APlain}
use Rattle.asn1_names.specs.ModuleTerms.{NumberTerm, NamedNumberTerm, RangeTerm, LimitTerm, TagTerm, PresenceTerm}
use Rattle.asn1_names.specs.ModuleTerms.{TypeTerm, MemberTerms, AssignedTerm, AssignmentTerm, ImportTerm}
use Rattle.asn1_names.specs.ModuleTerms.{ModuleTerm}
use Rattle.asn1_names.specs.ModuleTerms.NumberTerm.{Digits, Called}
use Rattle.asn1_names.specs.ModuleTerms.LimitTerm.{SizeLimit, ValueLimit}
use Rattle.asn1_names.specs.ModuleTerms.PresenceTerm.{Needed, OptionalTerm, DefaultTerm}
use Rattle.asn1_names.specs.ModuleTerms.PlainTerm.{OneWord, IntegerTerm, EnumeratedTerm, BitStringTerm}
use Rattle.asn1_names.specs.ModuleTerms.PlainTerm.{OctetStringTerm, IdentifierTerm, AnyTerm}
use Rattle.asn1_names.specs.ModuleTerms.TypeTerm.{Under, Structure, Repeated, Alternatives, Plain, Reference}
use Rattle.asn1_names.specs.ModuleTerms.MemberTerms.{NoMembers, Member}
use Rattle.asn1_names.specs.ModuleTerms.AssignedTerm.{AssignsType, AssignsValue}

abbrev pub signed_term : SignedNumber → NumberTerm
signed_term x = Digits (is_some x.minus) x.number

abbrev pub bound_term : Bound → NumberTerm
bound_term (Number number) = signed_term number
bound_term (Name name) = Called name

-- a number without a sign, or a name
abbrev pub token_term : Token → NumberTerm
token_term token = if is_number token then Digits false token else Called token

abbrev pub integer_term : NamedInteger → NamedNumberTerm
integer_term x = record { name = x.name; number = bound_term x.number }

abbrev pub bit_term : NamedBit → NamedNumberTerm
bit_term x = record { name = x.name; number = token_term x.number }

abbrev pub range_term : Range → RangeTerm
range_term x = record { lower = bound_term x.lower; upper = option_map bound_term x.upper }

abbrev pub range_terms : Vec Range Global → List RangeTerm
range_terms xs = map range_term xs.items

abbrev pub limit_term : Constraint → LimitTerm
limit_term (Size xs) = SizeLimit (range_terms xs)
limit_term (Values xs) = ValueLimit (range_terms xs)

abbrev pub limit_terms : Vec Constraint Global → List LimitTerm
limit_terms xs = map limit_term xs.items

abbrev pub tag_term : Tag → TagTerm
tag_term x = record { class = x.class; number = token_term x.number }

-- the named numbers, or bits, none where no braces stand
abbrev pub listed_terms : {X : Type 0} → (X → NamedNumberTerm) → Option (Vec X Global) → List NamedNumberTerm
listed_terms view None = []
listed_terms view (Some xs) = map view xs.items

abbrev pub presence_term : Option (Box Presence Global) → PresenceTerm
presence_term None = Needed
presence_term (Some presence) = elim presence.value as (λ _. PresenceTerm) [
  | Optional word ↦ OptionalTerm
  | Default value ↦ DefaultTerm (value_tree value)
]

abbrev pub plain_term : PlainType → List LimitTerm → TypeTerm
plain_term (plain.Simple word) limits = Plain word OneWord limits
plain_term (plain.Integer x) limits = Plain x.word (IntegerTerm (listed_terms integer_term x.numbers)) limits
plain_term (plain.Enumerated x) limits = Plain x.word (EnumeratedTerm (map integer_term x.items.items)) limits
plain_term (plain.BitString x) limits = Plain x.word (BitStringTerm (listed_terms bit_term x.bits)) limits
plain_term (plain.OctetString word) limits = Plain word OctetStringTerm limits
plain_term (plain.ObjectIdentifier word) limits = Plain word IdentifierTerm limits
plain_term (plain.Any x) limits = Plain x.word AnyTerm limits
plain_term (plain.Named x) limits = elim x.member as (λ _. TypeTerm) [
  | None ↦ Reference None x.name limits
  | Some member ↦ Reference (Some x.name) member limits
]

abbrev mutual
  pub type_term : TypeText → TypeTerm
  type_term (Tagged' tag mode place of) = Under (tag_term tag.value) mode (type_term of)
  type_term (Structured word content) = structure_term word content
  type_term (Choice' word shape row constraints) =
      Alternatives word (alternative_terms row) (limit_terms constraints)
  type_term (APlain of constraints) = plain_term of (limit_terms constraints)

  pub structure_term : Token → StructureText → TypeTerm
  structure_term word (Components' components constraints) =
      Structure word (component_terms components) (limit_terms constraints)
  structure_term word (ListOf' size place of) = Repeated word (option_map range_terms size) (type_term of)

  pub component_terms : Held-StructureText-Components-0 → MemberTerms
  component_terms NoRow = NoMembers
  component_terms (ARow shape row) = row_terms row

  pub row_terms : {n : _} → Row_of-Component n → MemberTerms
  row_terms end_of-Component = NoMembers
  row_terms (more_of-Component name of presence others) =
      Member name (type_term of) (presence_term presence) (row_terms others)

  pub alternative_terms : {n : _} → Row_of-Alternative n → MemberTerms
  alternative_terms end_of-Alternative = NoMembers
  alternative_terms (more_of-Alternative name of others) =
      Member name (type_term of) Needed (alternative_terms others)

-- the number where the value is one, or the name where it is one alone
abbrev pub value_number : ValueText → Option NumberTerm
value_number (Literal literal) = None
value_number (ANumber number) = Some (signed_term number)
value_number (ANamed (NameAlone name)) = Some (Called name)
value_number (ANamed (ChosenValue name place value)) = None
value_number (Braces brace content) = None

abbrev pub assigned_term : Assigned → AssignedTerm
assigned_term (OfType of) = AssignsType (type_term of)
assigned_term (OfValue of value) = AssignsValue (type_term of) (value_number value) (value_tree value)

abbrev pub assignment_term : Assignment → AssignmentTerm
assignment_term x = record { name = x.name; assigned = assigned_term x.assigned }

abbrev pub import_term : ImportedSymbols → ImportTerm
import_term x = record { symbols = x.symbols.items; module_name = x.module_name }

abbrev pub import_terms : Option Imports → List ImportTerm
import_terms None = []
import_terms (Some x) = import_term x.first ∷ map import_term x.others.items

-- IMPLICIT TAGS stands in the head
abbrev pub has_implicit_tags : Option Token → Bool
has_implicit_tags None = false
has_implicit_tags (Some mode) = is_word_of (codes "IMPLICIT") mode

abbrev pub module_term : Module → ModuleTerm
module_term x = record {
  document = x.document;
  name = x.name;
  is_implicit = has_implicit_tags x.tag_default;
  imports = import_terms x.imports;
  assignments = map assignment_term x.assignments.items;
}

abbrev pub module_terms : List Module → List ModuleTerm
module_terms xs = map module_term xs
