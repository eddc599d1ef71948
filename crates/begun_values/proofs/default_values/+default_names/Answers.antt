-- What may stand at a component itself and in its type; and in a type under a tag, in a list, a structure and a choice.
use Rattle.std.proofs.Common.{rules, ◌≡◌, ◌∙◌, [], ap, option_map, true}
use Rattle.std.proofs.Math.Path.{subst}
use Rattle.std.specs.Prelude.{◌↔◌}
use Rattle.asn1_syntax.specs.declared.type_text.StructureText.TheVariants.{Components}
use Rattle.asn1_syntax.specs.declared.type_text.TypeText.{TypeText}
use Rattle.asn1_syntax.specs.declared.type_text.TypeText.TheVariants.{Structured}
use Rattle.asn1_names.specs.TermViews.{limit_terms, presence_term, range_terms, tag_term, type_term}
use Rattle.asn1_names.specs.ModuleTerms.TypeTerm.{Alternatives, Structure}
use Rattle.asn1_numbers.specs.NamedTargets.{alternative_members, component_members}
use Rattle.asn1_numbers.proofs.MemberRows.{choice_said, structure_said}
use Rattle.gdmo_begun_names.specs.BegunMarks.{DefinesSome}
use Rattle.begun_values.specs.DefaultNames.{AlternativeFirsts, ComponentFirsts, DefaultFirsts, MayFirsts, OwnFirsts}
use Rattle.begun_values.specs.DefaultNames.{default_text}
use Rattle.begun_values.proofs.DefaultLaws.{may_alternative, may_component, may_list, may_no_alternative}
use Rattle.begun_values.proofs.DefaultLaws.{may_no_component, may_tagged}
use Rattle.begun_values.proofs.ListedLaws.{NoneDefined, none_end, none_step, told_second}
use Rattle.begun_values.proofs.default_values.+default_names.Goals as goal

pub component_may_have-returns-else-own_may_have :
    goal.component_may_have-returns-else-own_may_have
component_may_have-returns-else-own_may_have t c =
    told_second (OwnFirsts MayFirsts (type_term c.args.component.now.of)
    (default_text (presence_term c.args.component.now.presence)))
    (DefaultFirsts MayFirsts (type_term c.args.component.now.of)) c.args.names.now c.own_may_have.result
    c.have_names.result c.own_may_have.ensures c.if-own_may_have.false c.have_names.ensures

pub have_names-returns-then-component_may_have : goal.have_names-returns-then-component_may_have
have_names-returns-then-component_may_have t c =
    let xs = c.deref-component-items.result.now in
    let items : c.in-Some.components.items ≡ xs = search rules in
    may_component (type_term c.args.of.now) c.in-Structured.word xs (limit_terms c.in-Components.constraints)
    c.loop-component.component-index c.component-item.result c.args.names.now c.component_may_have.result
    (ap type_term c.in-Structured.is ∙ ap (λ x. type_term (Structured c.in-Structured.word x)) c.in-Components.is ∙
    ap (λ x. type_term (Structured c.in-Structured.word (Components x c.in-Components.constraints))) c.in-Some.is ∙
    structure_said c.in-Structured.word c.in-Some.components c.in-Components.constraints
    ∙ ap (λ ys. Structure c.in-Structured.word (component_members ys) (limit_terms c.in-Components.constraints)) items)
    c.loop-component-test.true c.component-item.is c.component_may_have.ensures c.if-component_may_have.true

pub have_names-loop-component-preserved : goal.have_names-loop-component-preserved
have_names-loop-component-preserved t c =
    none_step (ComponentFirsts MayFirsts) c.args.names.now c.deref-component-items.result.now
    c.loop-component.component-index c.component-item.result c.component_may_have.result c.loop-component-test.true
    c.component-item.is c.component_may_have.ensures c.if-component_may_have.false c.loop-component.invariant

pub have_names-returns-then-have_names : goal.have_names-returns-then-have_names
have_names-returns-then-have_names t c =
    let xs = c.deref-alternative-items.result.now in
    let items : c.in-Choice.alternatives.items ≡ xs = search rules in
    may_alternative (type_term c.args.of.now) c.in-Choice.word xs (limit_terms c.in-Choice.constraints)
    c.loop-alternative.alternative-index c.alternative-item.result c.args.names.now
    c.have_names-in-loop-alternative.result
    (ap type_term c.in-Choice.is ∙ choice_said c.in-Choice.word c.in-Choice.alternatives c.in-Choice.constraints
    ∙ ap (λ ys. Alternatives c.in-Choice.word (alternative_members ys) (limit_terms c.in-Choice.constraints)) items)
    c.loop-alternative-test.true c.alternative-item.is c.have_names-in-loop-alternative.ensures c.if-have_names.true

pub have_names-loop-alternative-preserved : goal.have_names-loop-alternative-preserved
have_names-loop-alternative-preserved t c =
    none_step (AlternativeFirsts MayFirsts) c.args.names.now c.deref-alternative-items.result.now
    c.loop-alternative.alternative-index c.alternative-item.result c.have_names-in-loop-alternative.result
    c.loop-alternative-test.true c.alternative-item.is c.have_names-in-loop-alternative.ensures c.if-have_names.false
    c.loop-alternative.invariant

pub have_names-returns-in-Tagged : goal.have_names-returns-in-Tagged
have_names-returns-in-Tagged t c =
    let inner : c.deref.result.now ≡ c.in-Tagged.of.value = search rules in
    may_tagged (type_term c.args.of.now) (tag_term c.in-Tagged.tag.value) c.in-Tagged.mode
    (type_term c.in-Tagged.of.value) c.args.names.now c.have_names.result (ap type_term c.in-Tagged.is)
    (subst (λ (x : TypeText). (c.have_names.result ≡ true) ↔ DefinesSome (DefaultFirsts MayFirsts (type_term x))
    c.args.names.now) inner c.have_names.ensures)

pub have_names-returns-after-loop-component : goal.have_names-returns-after-loop-component
have_names-returns-after-loop-component t c =
    let xs = c.in-Some.components.items in
    let items : c.deref-component-items.result.now ≡ xs = search rules in
    may_no_component (type_term c.args.of.now) c.in-Structured.word xs (limit_terms c.in-Components.constraints)
    c.args.names.now
    (ap type_term c.in-Structured.is ∙ ap (λ x. type_term (Structured c.in-Structured.word x)) c.in-Components.is ∙
    ap (λ x. type_term (Structured c.in-Structured.word (Components x c.in-Components.constraints))) c.in-Some.is ∙
    structure_said c.in-Structured.word c.in-Some.components c.in-Components.constraints)
    (subst (λ ys. NoneDefined (ComponentFirsts MayFirsts) c.args.names.now ys) items
    (none_end (ComponentFirsts MayFirsts) c.args.names.now c.deref-component-items.result.now
    c.loop-component.component-index c.loop-component-test.false c.loop-component.invariant))

pub have_names-returns-in-None : goal.have_names-returns-in-None
have_names-returns-in-None t c =
    may_no_component (type_term c.args.of.now) c.in-Structured.word [] (limit_terms c.in-Components.constraints)
    c.args.names.now
    (ap type_term c.in-Structured.is ∙ ap (λ x. type_term (Structured c.in-Structured.word x)) c.in-Components.is ∙
    ap (λ x. type_term (Structured c.in-Structured.word (Components x c.in-Components.constraints))) c.in-None.is)
    (λ d. d.1.is_one)

pub have_names-returns-in-ListOf : goal.have_names-returns-in-ListOf
have_names-returns-in-ListOf t c =
    let inner : c.deref-in-ListOf.result.now ≡ c.in-ListOf.of.value = search rules in
    may_list (type_term c.args.of.now) c.in-Structured.word (option_map range_terms c.in-ListOf.size)
    (type_term c.in-ListOf.of.value) c.args.names.now c.have_names-in-ListOf.result
    (ap type_term c.in-Structured.is ∙ ap (λ x. type_term (Structured c.in-Structured.word x)) c.in-ListOf.is)
    (subst (λ (x : TypeText). (c.have_names-in-ListOf.result ≡ true) ↔
    DefinesSome (DefaultFirsts MayFirsts (type_term x)) c.args.names.now) inner c.have_names-in-ListOf.ensures)

pub have_names-returns-after-loop-alternative : goal.have_names-returns-after-loop-alternative
have_names-returns-after-loop-alternative t c =
    let xs = c.in-Choice.alternatives.items in
    let items : c.deref-alternative-items.result.now ≡ xs = search rules in
    may_no_alternative (type_term c.args.of.now) c.in-Choice.word xs (limit_terms c.in-Choice.constraints)
    c.args.names.now
    (ap type_term c.in-Choice.is ∙ choice_said c.in-Choice.word c.in-Choice.alternatives c.in-Choice.constraints)
    (subst (λ ys. NoneDefined (AlternativeFirsts MayFirsts) c.args.names.now ys) items
    (none_end (AlternativeFirsts MayFirsts) c.args.names.now c.deref-alternative-items.result.now
    c.loop-alternative.alternative-index c.loop-alternative-test.false c.loop-alternative.invariant))
