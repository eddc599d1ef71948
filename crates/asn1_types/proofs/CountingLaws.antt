-- CountingLaws: the nodes of a type are those of the syntax that it denotes (docs/PROFILE.md, section 11).
use Rattle.std.proofs.Common.{◌≡◌, ◌≤◌, ◌+◌, ℕ, List, [], ◌∷◌, Bool, true, false, Option, None, Some, length, refl}
use Rattle.std.proofs.Common.{ap, arith, codes, sym, ◌∙◌, if◌then◌else◌}
use Rattle.std.proofs.Math.Path.{subst}
use Rattle.token_grammar.specs.declared.token.Token.{Token}
use Rattle.term_values.specs.PartsView.{parts_listed}
use Rattle.term_values.specs.Syntaxes.{TypeParts, TypeSyntax}
use Rattle.term_values.specs.Syntaxes.TypeSyntax.{Any, BitString, Boolean, Choice, Enumerated, Filter, GeneralizedTime}
use Rattle.term_values.specs.Syntaxes.TypeSyntax.{Integer, NullType, ObjectIdentifier, OctetString}
use Rattle.term_values.specs.Syntaxes.TypeSyntax.{Sequence, SequenceOf}
use Rattle.term_values.specs.Syntaxes.TypeSyntax.{SetOf, SetType, Tagged, TextString}
use Rattle.term_values.specs.declared.charset.Charset.TheVariants as charsets
use Rattle.term_values.specs.declared.syntax.Part.{Part as PartOfSyntax}
use Rattle.asn1_names.specs.DenotedSyntax.{Denotes, MembersDenote, PlainDenotes}
use Rattle.asn1_names.specs.DenotedSyntax.Denotes.{choice, named, plain, sequence, sequence_of, set, set_of, standard}
use Rattle.asn1_names.specs.DenotedSyntax.Denotes.{tagged}
use Rattle.asn1_names.specs.DenotedSyntax.MembersDenote.{member, no_members}
use Rattle.asn1_names.specs.DenotedSyntax.PlainDenotes.{any, bit_string, enumerated, integer, object_identifier}
use Rattle.asn1_names.specs.DenotedSyntax.PlainDenotes.{octet_string, one_word}
use Rattle.asn1_names.specs.FirstModuleFault.{AreFaultless}
use Rattle.asn1_names.specs.ModuleTerms.{MemberTerms, ModuleTerm, PlainTerm, TypeTerm}
use Rattle.asn1_names.specs.NodeCount.{HasNodes, HaveNodes, IsNoType, parts_count, syntax_count}
use Rattle.asn1_names.specs.NodeCount.HasNodes.{alternatives as nodes_alternatives, cyclic as nodes_cyclic}
use Rattle.asn1_names.specs.NodeCount.HasNodes.{named as nodes_named, plain as nodes_plain, repeated as nodes_repeated}
use Rattle.asn1_names.specs.NodeCount.HasNodes.{standard as nodes_standard, structure as nodes_structure}
use Rattle.asn1_names.specs.NodeCount.HasNodes.{tagged as nodes_tagged, unknown as nodes_unknown}
use Rattle.asn1_names.specs.NodeCount.HaveNodes.{member as nodes_member, no_members as nodes_none}
use Rattle.asn1_names.specs.StandardModule.{is_same_name}
use Rattle.asn1_names.specs.TypeWords.{one_word_type}
use Rattle.asn1_names.proofs.BaseLaws.{constrained_nodes}
use Rattle.asn1_names.proofs.OneNumber.{at_type, not_both, same_standard, same_types}
use Rattle.asn1_names.proofs.PassingLaws.{acyclic}

-- ---- a type that holds no other has one node

OneNode : Option TypeSyntax → Type 0
OneNode None = Unit {0}
OneNode (Some syntax) = syntax_count syntax ≡ 1

one_if : (b : Bool) (syntax : TypeSyntax) (rest : Option TypeSyntax) → syntax_count syntax ≡ 1 → OneNode rest →
    OneNode (if b then Some syntax else rest)
unfolding OneNode
one_if true syntax rest here others = here
one_if false syntax rest here others = others

none_one : OneNode None
unfolding OneNode
none_one = tt

word_node : (word : List ℕ) → OneNode (one_word_type word)
word_node word =
    one_if (is_same_name word (codes "BOOLEAN")) Boolean _ refl (one_if (is_same_name word (codes "NULL")) NullType _
    refl
    (one_if (is_same_name word (codes "NumericString")) (TextString charsets.Numeric []) _ refl
    (one_if (is_same_name word (codes "PrintableString")) (TextString charsets.Printable []) _ refl
    (one_if (is_same_name word (codes "IA5String")) (TextString charsets.Ia5 []) _ refl
    (one_if (is_same_name word (codes "VisibleString")) (TextString charsets.Visible []) _ refl
    (one_if (is_same_name word (codes "GraphicString")) (TextString charsets.Graphic []) _ refl
    (one_if (is_same_name word (codes "GeneralizedTime")) GeneralizedTime _ refl none_one)))))))

plain_node : {ms : List ModuleTerm} {m : ℕ} {word : Token} {of : PlainTerm} {syntax : TypeSyntax} →
    PlainDenotes ms m word of syntax → syntax_count syntax ≡ 1
unfolding OneNode
plain_node {word = word} (one_word is) = subst OneNode is (word_node word.text)
plain_node (integer names) = refl
plain_node (enumerated names) = refl
plain_node (bit_string names) = refl
plain_node octet_string = refl
plain_node object_identifier = refl
plain_node any = refl

-- ---- the nodes of a type are those of its syntax

mutual
  pub counted : {ms : List ModuleTerm} {m n : ℕ} {of : TypeTerm} {syntax : TypeSyntax} → AreFaultless ms →
      HasNodes ms m of n → Denotes ms m of syntax → n ≡ syntax_count syntax
  counted sound (nodes_tagged h) (tagged t d) = ap (λ k. 1 + k) (counted sound h d)
  counted sound (nodes_structure h) (sequence w d) = ap (λ k. 1 + k) (counted_parts sound h d)
  counted sound (nodes_structure h) (set w d) = ap (λ k. 1 + k) (counted_parts sound h d)
  counted sound (nodes_repeated h) (sequence_of w d c) = ap (λ k. 1 + k) (counted sound h d) ∙ sym (constrained_nodes c)
  counted sound (nodes_repeated h) (set_of w d c) = ap (λ k. 1 + k) (counted sound h d) ∙ sym (constrained_nodes c)
  counted sound (nodes_alternatives h) (choice d) = ap (λ k. 1 + k) (counted_parts sound h d)
  counted sound nodes_plain (plain p c) = sym (constrained_nodes c ∙ plain_node p)
  counted {ms = ms} {n = n} sound (nodes_named {v = v} {i = i} {of = of} e unless h)
      (named {v = w} {i = j} {of = its} {unlimited = unlimited} f d c) =
      counted sound h (at_type (λ x y. Denotes ms x y unlimited) v w of its (same_types _ v i w j of its e f) d) ∙
      sym (constrained_nodes c)
  counted sound (nodes_named {v = v} {i = i} {of = of} e unless h) (standard {unlimited = its} f c) =
      absurd (not_both _ v i of its e f)
  counted {ms = ms} sound (nodes_cyclic {v = v} {i = i} e cyclic) d = absurd (acyclic ms v i sound cyclic)
  counted sound (nodes_standard {syntax = its} e is) (named {v = v} {i = i} {of = of} f d c) =
      absurd (not_both _ v i of its f e)
  counted sound (nodes_standard {syntax = one} e is) (standard {unlimited = two} f c) =
      is ∙ ap syntax_count (same_standard _ one two e f) ∙ sym (constrained_nodes c)
  counted sound (nodes_unknown none) (named f d c) = absurd (subst IsNoType f none)
  counted sound (nodes_unknown none) (standard f c) = absurd (subst IsNoType f none)

  pub counted_parts : {ms : List ModuleTerm} {m n : ℕ} {members : MemberTerms} {parts : TypeParts} → AreFaultless ms →
      HaveNodes ms m members n → MembersDenote ms m members parts → n ≡ parts_count parts
  counted_parts sound nodes_none no_members = refl
  counted_parts sound (nodes_member h rest) (member d others) =
      λ i. counted sound h d i + counted_parts sound rest others i

-- ---- each part has a node

one_at_least : (syntax : TypeSyntax) → 1 ≤ syntax_count syntax
one_at_least Boolean = omega arith
one_at_least (Integer names ranges) = omega arith
one_at_least (Enumerated names) = omega arith
one_at_least (BitString names sizes) = omega arith
one_at_least (OctetString sizes) = omega arith
one_at_least NullType = omega arith
one_at_least ObjectIdentifier = omega arith
one_at_least (TextString charset sizes) = omega arith
one_at_least GeneralizedTime = omega arith
one_at_least (Sequence parts) = omega arith
one_at_least (SetType parts) = omega arith
one_at_least (SequenceOf element sizes) = omega arith
one_at_least (SetOf element sizes) = omega arith
one_at_least (Choice parts) = omega arith
one_at_least (Tagged tag explicit of) = omega arith
one_at_least Any = omega arith
one_at_least Filter = omega arith

pub parts_at_least : (items : List PartOfSyntax) → length items ≤ parts_count (parts_listed items)
parts_at_least [] = omega arith
parts_at_least (x ∷ items) =
    let one = one_at_least x.syntax in
    let rest = parts_at_least items in omega (arith, one, rest)
