-- TextTrees: each text of DEFAULT, and each text of a value, that stands in modules is told by the tree of a text
-- (X.680, sections 17.7 and 25.1).
use Rattle.std.proofs.Common.{◌≡◌, ℕ, List, Option, None, Some, refl}
use Rattle.token_grammar.specs.declared.token.Token.{Token}
use Rattle.token_grammar.specs.Form.{Tree}
use Rattle.asn1_values_syntax.specs.ValueTrees.{value_tree}
use Rattle.asn1_values_syntax.specs.declared.value.ValueText.{ValueText}
use Rattle.asn1_syntax.specs.declared.module.Assigned.{Assigned}
use Rattle.asn1_syntax.specs.declared.module.Assigned.TheVariants.{OfType, OfValue}
use Rattle.asn1_syntax.specs.declared.plain_type.PlainType.{PlainType}
use Rattle.asn1_syntax.specs.declared.plain_type.PlainType.TheVariants as plain
use Rattle.asn1_syntax.specs.declared.presence.Presence.{Presence}
use Rattle.asn1_syntax.specs.declared.presence.Presence.TheVariants.{Optional, Default}
use Rattle.asn1_syntax.specs.declared.type_text.StructureText.{StructureText, Row_of-Component, end_of-Component}
use Rattle.asn1_syntax.specs.declared.type_text.StructureText.{more_of-Component, Held-StructureText-Components-0}
use Rattle.asn1_syntax.specs.declared.type_text.StructureText.{None' as NoRow, Some' as ARow}
use Rattle.asn1_syntax.specs.declared.type_text.StructureText.TheVariants.{Components', ListOf'}
use Rattle.asn1_syntax.specs.declared.type_text.TypeText.{TypeText, Row_of-Alternative, end_of-Alternative}
use Rattle.asn1_syntax.specs.declared.type_text.TypeText.{more_of-Alternative}
use Rattle.asn1_syntax.specs.declared.type_text.TypeText.TheVariants.{Tagged', Structured, Choice', Plain as APlain}
use Rattle.std.specs.declared.alloc.Global.{Global}
use Rattle.std.specs.declared.boxed.Box.{Box}
use Rattle.asn1_names.specs.ModuleTerms.{AssignedTerm, LimitTerm, MemberTerms, PresenceTerm, TypeTerm}
use Rattle.asn1_names.specs.ModuleTerms.AssignedTerm.{AssignsType, AssignsValue}
use Rattle.asn1_names.specs.ModuleTerms.PresenceTerm.{Needed, OptionalTerm, DefaultTerm}
use Rattle.asn1_names.specs.ModuleTerms.TypeTerm.{Under, Structure, Repeated, Alternatives, Plain, Reference}
use Rattle.asn1_names.specs.ModuleTerms.MemberTerms.{NoMembers, Member}
use Rattle.asn1_names.specs.Containment.{IsMember}
use Rattle.asn1_names.specs.Containment.IsMember.{first, behind}
use Rattle.asn1_names.specs.TermViews.{alternative_terms, assigned_term, component_terms, limit_terms, plain_term}
use Rattle.asn1_names.specs.TermViews.{presence_term, row_terms, structure_term, type_term}

-- a tree is that of a text
abbrev pub IsTold : Tree → Type 0
IsTold tree = (text : ValueText) × (value_tree text ≡ tree)

-- so is each text of DEFAULT in a type
abbrev pub PresenceTold : PresenceTerm → Type 0
PresenceTold Needed = Unit {0}
PresenceTold OptionalTerm = Unit {0}
PresenceTold (DefaultTerm text) = IsTold text

abbrev mutual
  pub TypeTold : TypeTerm → Type 0
  TypeTold (Under tag mode of) = TypeTold of
  TypeTold (Structure word members limits) = MembersTold members
  TypeTold (Repeated word size of) = TypeTold of
  TypeTold (Alternatives word members limits) = MembersTold members
  TypeTold (Plain word of limits) = Unit {0}
  TypeTold (Reference module_name name limits) = Unit {0}

  pub MembersTold : MemberTerms → Type 0
  MembersTold NoMembers = Unit {0}
  MembersTold (Member name of presence rest) = TypeTold of × PresenceTold presence × MembersTold rest

-- of a type that is assigned, and of a value's type and text
abbrev pub AssignedTold : AssignedTerm → Type 0
AssignedTold (AssignsType of) = TypeTold of
AssignedTold (AssignsValue of number text) = TypeTold of × IsTold text

-- ---- the terms of texts

presence_told : (x : Option (Box Presence Global)) → PresenceTold (presence_term x)
presence_told None = tt
presence_told (Some presence) = by presence.value
  where
    by : (x : Presence) → PresenceTold (elim x as (λ _. PresenceTerm) [
      | Optional word ↦ OptionalTerm
      | Default value ↦ DefaultTerm (value_tree value)
    ])
    by (Optional word) = tt
    by (Default value) = (value, refl)

plain_told : (x : PlainType) (limits : List LimitTerm) → TypeTold (plain_term x limits)
plain_told (plain.Simple word) limits = tt
plain_told (plain.Integer x) limits = tt
plain_told (plain.Enumerated x) limits = tt
plain_told (plain.BitString x) limits = tt
plain_told (plain.OctetString word) limits = tt
plain_told (plain.ObjectIdentifier word) limits = tt
plain_told (plain.Any x) limits = tt
plain_told (plain.Named x) limits = by x.member
  where
    by : (member : Option Token) → TypeTold (elim member as (λ _. TypeTerm) [
      | None ↦ Reference None x.name limits
      | Some its ↦ Reference (Some x.name) its limits
    ])
    by None = tt
    by (Some its) = tt

mutual
  type_told : (x : TypeText) → TypeTold (type_term x)
  type_told (Tagged' tag mode place of) = type_told of
  type_told (Structured word content) = structure_told word content
  type_told (Choice' word shape row constraints) = alternatives_told row
  type_told (APlain of constraints) = plain_told of (limit_terms constraints)

  structure_told : (word : Token) (x : StructureText) → TypeTold (structure_term word x)
  structure_told word (Components' components constraints) = components_told components
  structure_told word (ListOf' size place of) = type_told of

  components_told : (x : Held-StructureText-Components-0) → MembersTold (component_terms x)
  components_told NoRow = tt
  components_told (ARow shape row) = row_told row

  row_told : {n : _} (row : Row_of-Component n) → MembersTold (row_terms row)
  row_told end_of-Component = tt
  row_told (more_of-Component name of presence others) = (type_told of, presence_told presence, row_told others)

  alternatives_told : {n : _} (row : Row_of-Alternative n) → MembersTold (alternative_terms row)
  alternatives_told end_of-Alternative = tt
  alternatives_told (more_of-Alternative name of others) = (type_told of, tt, alternatives_told others)

pub assigned_told : (x : Assigned) → AssignedTold (assigned_term x)
assigned_told (OfType of) = type_told of
assigned_told (OfValue of value) = (type_told of, (value, refl))

-- ---- components and alternatives

-- what holds of all of them holds of each
pub member_told : {members : MemberTerms} {k : ℕ} {of : TypeTerm} {presence : PresenceTerm} →
    IsMember members k of presence → MembersTold members → TypeTold of × PresenceTold presence
member_told first told = (told.0, told.1)
member_told (behind is) told = member_told is told.2
