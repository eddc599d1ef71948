-- TextChoices: in the text of a type that tokens spell each CHOICE has an alternative (X.680, section 29.1).
use Rattle.std.proofs.Common.{ℕ, Bool, List, Option, None, Some, option_map}
use Rattle.token_grammar.specs.declared.token.Token.{Token}
use Rattle.token_grammar.specs.Form.{Form, Listed, Named, Or}
use Rattle.token_grammar.specs.Form.{Tree, Bare, Leaf, Pair, First, Second, Absent, Present, Empty, After, Numbered}
use Rattle.token_grammar.specs.Spelling as S
use Rattle.token_grammar.specs.Spelling.{Spells}
use Rattle.asn1_values_syntax.specs.Asn1.{asn1}
use Rattle.asn1_values_syntax.specs.TypeForms.{alternative, component, components, list_of}
use Rattle.asn1_values_syntax.specs.ValueForms.{comma, types}
use Rattle.asn1_syntax.specs.declared.plain_type.PlainType.{PlainType}
use Rattle.asn1_syntax.specs.declared.plain_type.PlainType.TheVariants as plain
use Rattle.asn1_syntax.specs.declared.type_text.StructureText.{StructureText, Row_of-Component, end_of-Component}
use Rattle.asn1_syntax.specs.declared.type_text.StructureText.{more_of-Component, Held-StructureText-Components-0}
use Rattle.asn1_syntax.specs.declared.type_text.StructureText.{None' as NoRow, Some' as ARow}
use Rattle.asn1_syntax.specs.declared.type_text.StructureText.TheVariants.{Components', ListOf'}
use Rattle.asn1_syntax.specs.declared.type_text.TypeText.{TypeText, Row_of-Alternative, end_of-Alternative}
use Rattle.asn1_syntax.specs.declared.type_text.TypeText.{more_of-Alternative}
use Rattle.asn1_syntax.specs.declared.type_text.TypeText.TheVariants.{Tagged', Structured, Choice', Plain as APlain}
use Rattle.asn1_syntax.specs.TypeTrees.{alternatives_row, component_parts, components_held, components_row}
use Rattle.asn1_syntax.specs.TypeTrees.{structure_tree, type_tree}
use Rattle.asn1_names.specs.ModuleTerms.{LimitTerm, TypeTerm}
use Rattle.asn1_names.specs.ModuleTerms.PresenceTerm.{Needed}
use Rattle.asn1_names.specs.ModuleTerms.TypeTerm.{Alternatives, Reference}
use Rattle.asn1_names.specs.TermViews.{alternative_terms, component_terms, limit_terms, plain_term, presence_term}
use Rattle.asn1_names.specs.TermViews.{range_terms, row_terms, structure_term, tag_term, type_term}
use Rattle.arc_laws.proofs.Saying.{ListSaid, MaybeSaid, Spelt, either_said, listed_said, maybe_said, named_said}
use Rattle.arc_laws.proofs.Saying.{pair_said}
use Rattle.choice_laws.proofs.TermChoices.{AreFilled, IsFilled, choice_filled, no_members, one_member, plain_filled}
use Rattle.choice_laws.proofs.TermChoices.{reference_filled, repeated_filled, structure_filled, tagged_filled}

-- a list with a part
abbrev HasPart : Tree → Type 0
HasPart Bare = Unit {0}
HasPart (Leaf token) = Unit {0}
HasPart (Pair a b) = Unit {0}
HasPart (First a) = Unit {0}
HasPart (Second a) = Unit {0}
HasPart Absent = Unit {0}
HasPart (Present a) = Unit {0}
HasPart Empty = ⊥
HasPart (After s a) = Unit {0}
HasPart (Numbered n a) = Unit {0}

-- a type that holds no other
name_filled : (x : PlainType) (limits : List LimitTerm) → IsFilled (plain_term x limits)
name_filled (plain.Simple word) limits = plain_filled word _ limits
name_filled (plain.Integer x) limits = plain_filled x.word _ limits
name_filled (plain.Enumerated x) limits = plain_filled x.word _ limits
name_filled (plain.BitString x) limits = plain_filled x.word _ limits
name_filled (plain.OctetString word) limits = plain_filled word _ limits
name_filled (plain.ObjectIdentifier word) limits = plain_filled word _ limits
name_filled (plain.Any x) limits = plain_filled x.word _ limits
name_filled (plain.Named x) limits = named x.name x.member
  where
    named : (name : Token) (member : Option Token) → IsFilled (elim member as (λ _. TypeTerm) [
      | None ↦ Reference None name limits
      | Some end ↦ Reference (Some name) end limits
    ])
    named name None = reference_filled None name limits
    named name (Some end) = reference_filled (Some name) end limits

-- a CHOICE whose alternatives are filled, and one of which is there
row_filled : {n : _} (word : Token) (row : Row_of-Alternative n) (limits : List LimitTerm) →
    HasPart (alternatives_row Empty row) → AreFilled (alternative_terms row) →
    IsFilled (Alternatives word (alternative_terms row) limits)
row_filled word end_of-Alternative limits part filled = absurd (part)
row_filled word (more_of-Alternative name of others) limits part filled =
    choice_filled word name (type_term of) Needed (alternative_terms others) limits filled

module _ (tokens : List Token) where
  listed_part : {separator : Token → Bool} {f : Form} {s a : Tree} {i k : ℕ} →
      Spells tokens asn1 (Listed separator s f) i k a → HasPart a
  listed_part (S.last one) = tt
  listed_part {separator} {f} {s} (S.more {a = a} one here others) =
      listed_part {separator = separator} {f = f} {s = After s a} others

  has_part : {a : Tree} → Spelt tokens asn1 (Listed comma Empty alternative) a → HasPart a
  has_part said = listed_part {separator = comma} {f = alternative} {s = Empty} said.spelt

  mutual
    pub type_filled : (x : TypeText) → Spelt tokens asn1 (Named types) (type_tree x) → IsFilled (type_term x)
    type_filled (Tagged' tag mode place of) said = tagged_filled (tag_term tag.value) mode (type_term of)
        (type_filled of (pair_said tokens asn1 (pair_said tokens asn1 (either_said tokens asn1
        (named_said tokens asn1 said))).1).1)
    type_filled (Structured word content) said = content_filled word content (pair_said tokens asn1
        (either_said tokens asn1 (either_said tokens asn1 (named_said tokens asn1 said)))).1
    type_filled (Choice' word shape row constraints) said =
        let behind = pair_said tokens asn1 (either_said tokens asn1 (either_said tokens asn1
        (either_said tokens asn1 (named_said tokens asn1 said)))) in
        let list = (pair_said tokens asn1 (pair_said tokens asn1 behind.1).1).0 in
        row_filled word row (limit_terms constraints) (has_part list)
        (alternatives_filled row Empty (listed_said tokens asn1 list)).1
    type_filled (APlain of constraints) said = name_filled of (limit_terms constraints)

    content_filled : (word : Token) (x : StructureText) →
        Spelt tokens asn1 (Or components list_of) (structure_tree x) → IsFilled (structure_term word x)
    content_filled word (Components' parts constraints) said =
        structure_filled word (component_terms parts) (limit_terms constraints) (held_filled parts
        (maybe_said tokens asn1 (pair_said tokens asn1 (pair_said tokens asn1 (either_said tokens asn1 said)).1).0))
    content_filled word (ListOf' size place of) said = repeated_filled word (option_map range_terms size) (type_term of)
        (type_filled of (pair_said tokens asn1 (pair_said tokens asn1 (either_said tokens asn1 said)).1).1)

    held_filled : (x : Held-StructureText-Components-0) →
        MaybeSaid tokens asn1 (Listed comma Empty component) (components_held x) → AreFilled (component_terms x)
    held_filled NoRow said = no_members
    held_filled (ARow shape row) said = (components_filled row Empty (listed_said tokens asn1 said)).1

    components_filled : {n : _} (row : Row_of-Component n) (before : Tree) →
        ListSaid tokens asn1 component (components_row before row) →
        ListSaid tokens asn1 component before × AreFilled (row_terms row)
    components_filled end_of-Component before said = (said, no_members)
    components_filled (more_of-Component name of presence others) before said =
        let rest = components_filled others (After before (component_parts name (type_tree of) presence)) said in
        let one = pair_said tokens asn1 (pair_said tokens asn1 rest.0.1).1 in (
          rest.0.0,
          one_member name (type_term of) (presence_term presence) (row_terms others) (type_filled of one.0) rest.1,
        )

    alternatives_filled : {n : _} (row : Row_of-Alternative n) (before : Tree) →
        ListSaid tokens asn1 alternative (alternatives_row before row) →
        ListSaid tokens asn1 alternative before × AreFilled (alternative_terms row)
    alternatives_filled end_of-Alternative before said = (said, no_members)
    alternatives_filled (more_of-Alternative name of others) before said =
        let rest = alternatives_filled others (After before (Pair (Leaf name) (type_tree of))) said in (
          rest.0.0,
          one_member name (type_term of) Needed (alternative_terms others)
              (type_filled of (pair_said tokens asn1 rest.0.1).1) rest.1,
        )
