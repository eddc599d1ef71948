-- The components of a SEQUENCE or SET, and the alternatives of a CHOICE.
use Rattle.std.proofs.Common.{◌≡◌, ◌∙◌, [], ap, map, refl, sym}
use Rattle.token_grammar.specs.declared.token.Token.{Token}
use Rattle.asn1_syntax.specs.declared.type_text.StructureText.{StructureText}
use Rattle.asn1_syntax.specs.declared.type_text.StructureText.TheVariants.{Components, Components', ListOf'}
use Rattle.asn1_names.specs.TermViews.{structure_term, type_term}
use Rattle.asn1_types.specs.BuiltSyntaxes.{alternative_member, component_member}
use Rattle.asn1_types.specs.MeasuredTypes.{members_listed}
use Rattle.asn1_types.proofs.BuildingLaws.{alternatives_are, components_are}
use Rattle.filled_syntaxes.specs.WrittenDefaults.{content_writes, members_write, writes_default}
use Rattle.filled_syntaxes.proofs.default_words.+default_words.Goals as goal

content_is : (word : Token) (content : StructureText) → content_writes content ≡ writes_default (structure_term word content)
content_is word (Components' components constraints) = refl
content_is word (ListOf' size place of) = refl

-- of any word
abbrev some_word : Token
some_word = record { kind = 0; at = 0; text = [] }

pub content_has_default-returns-in-Some : goal.content_has_default-returns-in-Some
content_has_default-returns-in-Some t c =
    let arm = c.in-Components in
    c.components_have_default.ensures ∙
    ap (λ xs. members_write (members_listed (map component_member xs))) c.as_slice.ensures.value ∙
    sym (content_is some_word c.args.content.now ∙
    ap (λ x. writes_default (structure_term some_word x)) (arm.is ∙ ap (λ x. Components x arm.constraints) c.in-Some.is) ∙
    ap writes_default (components_are some_word c.in-Some.components arm.constraints))

pub has_default-returns-in-Choice : goal.has_default-returns-in-Choice
has_default-returns-in-Choice t c =
    let arm = c.in-Choice in
    c.alternatives_have_default.ensures ∙
    ap (λ xs. members_write (members_listed (map alternative_member xs))) c.as_slice.ensures.value ∙
    sym (ap (λ x. writes_default (type_term x)) arm.is ∙
    ap writes_default (alternatives_are arm.word arm.alternatives arm.constraints))
