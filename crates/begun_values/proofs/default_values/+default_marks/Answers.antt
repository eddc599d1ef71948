-- A component's own value, and those in its type; and those in a type under a tag, in a list, a structure and a choice.
use Rattle.std.proofs.Common.{rules, ◌≡◌, ◌∙◌, [], ap, option_map}
use Rattle.std.proofs.Math.Path.{subst}
use Rattle.asn1_syntax.specs.declared.type_text.StructureText.TheVariants.{Components}
use Rattle.asn1_syntax.specs.declared.type_text.TypeText.{TypeText}
use Rattle.asn1_syntax.specs.declared.type_text.TypeText.TheVariants.{Structured}
use Rattle.asn1_names.specs.ModuleTerms.TypeTerm.{Alternatives, Structure}
use Rattle.asn1_names.specs.TermViews.{limit_terms, presence_term, range_terms, tag_term, type_term}
use Rattle.asn1_numbers.specs.NamedTargets.{alternative_members, component_members}
use Rattle.asn1_numbers.proofs.MemberRows.{choice_said, structure_said}
use Rattle.gdmo_begun_names.specs.BegunMarks.{AnyFirst, Marks}
use Rattle.gdmo_begun_names.proofs.MarkLaws.{both_marked, marked_end, none_marked}
use Rattle.begun_values.specs.DefaultNames.{AlternativeFirsts, ComponentFirsts, DefaultFirsts, DenotedFirsts}
use Rattle.begun_values.specs.DefaultNames.{OwnFirsts, default_text}
use Rattle.begun_values.specs.MeantSyntaxes.{DenotesThis}
use Rattle.begun_values.proofs.DefaultLaws.{alternative_walked, choice_walked, component_walked, list_walked}
use Rattle.begun_values.proofs.DefaultLaws.{structure_walked, tagged_walked}
use Rattle.begun_values.proofs.default_values.+default_marks.Goals as goal

pub mark_component-returns : goal.mark_component-returns
mark_component-returns t c = λ ms m d.
    both_marked (OwnFirsts (DenotedFirsts ms m) (type_term c.args.component.now.of)
    (default_text (presence_term c.args.component.now.presence)))
    (DefaultFirsts (DenotedFirsts ms m) (type_term c.args.component.now.of)) (c.mark_own.ensures ms m d)
    (c.mark_defaults.ensures ms m d)

pub mark_defaults-loop-k-preserved : goal.mark_defaults-loop-k-preserved
mark_defaults-loop-k-preserved t c = λ ms m.
    let xs = c.deref-component-items.result.now in
    let items : c.in-Some.components.items ≡ xs = search rules in
    component_walked ms m (type_term c.args.of.now) c.in-Structured.word xs (limit_terms c.in-Components.constraints)
    c.loop-k.k c.component-item.result (option_map (λ one. one.now) c.args.syntax)
    (option_map (λ one. one.now) c.part_at.result)
    (ap type_term c.in-Structured.is ∙ ap (λ x. type_term (Structured c.in-Structured.word x)) c.in-Components.is ∙
    ap (λ x. type_term (Structured c.in-Structured.word (Components x c.in-Components.constraints))) c.in-Some.is ∙
    structure_said c.in-Structured.word c.in-Some.components c.in-Components.constraints
    ∙ ap (λ ys. Structure c.in-Structured.word (component_members ys) (limit_terms c.in-Components.constraints)) items)
    c.loop-k-test.true c.component-item.is c.part_at.ensures (c.loop-k.invariant ms m)
    (c.mark_component.ensures ms m)

pub mark_defaults-loop-k-2-preserved : goal.mark_defaults-loop-k-2-preserved
mark_defaults-loop-k-2-preserved t c = λ ms m.
    let xs = c.deref-alternative-items.result.now in
    let items : c.in-Choice.alternatives.items ≡ xs = search rules in
    alternative_walked ms m (type_term c.args.of.now) c.in-Choice.word xs (limit_terms c.in-Choice.constraints)
    c.loop-k-2.k c.alternative-item.result (option_map (λ one. one.now) c.args.syntax)
    (option_map (λ one. one.now) c.part_at-in-loop-k-2.result)
    (ap type_term c.in-Choice.is ∙ choice_said c.in-Choice.word c.in-Choice.alternatives c.in-Choice.constraints
    ∙ ap (λ ys. Alternatives c.in-Choice.word (alternative_members ys) (limit_terms c.in-Choice.constraints)) items)
    c.loop-k-2-test.true c.alternative-item.is c.part_at-in-loop-k-2.ensures (c.loop-k-2.invariant ms m)
    (c.mark_defaults-in-loop-k-2.ensures ms m)

pub mark_defaults-returns-in-Tagged : goal.mark_defaults-returns-in-Tagged
mark_defaults-returns-in-Tagged t c = λ ms m.
    let inner : c.deref.result.now ≡ c.in-Tagged.of.value = search rules in
    let under = option_map (λ one. one.now) c.beneath.result in
    tagged_walked ms m (type_term c.args.of.now) (tag_term c.in-Tagged.tag.value) c.in-Tagged.mode
    (type_term c.in-Tagged.of.value) (option_map (λ one. one.now) c.args.syntax) under (ap type_term c.in-Tagged.is)
    c.beneath.ensures
    (subst (λ (x : TypeText). DenotesThis ms m (type_term x) under →
    Marks (DefaultFirsts (DenotedFirsts ms m) (type_term x)) c.args.names.now c.mark_defaults.new.names) inner
    (c.mark_defaults.ensures ms m))

pub mark_defaults-returns-after-loop-k : goal.mark_defaults-returns-after-loop-k
mark_defaults-returns-after-loop-k t c = λ ms m d.
    let xs = c.in-Some.components.items in
    let items : c.deref-component-items.result.now ≡ xs = search rules in
    structure_walked ms m (type_term c.args.of.now) c.in-Structured.word xs (limit_terms c.in-Components.constraints)
    (ap type_term c.in-Structured.is ∙ ap (λ x. type_term (Structured c.in-Structured.word x)) c.in-Components.is ∙
    ap (λ x. type_term (Structured c.in-Structured.word (Components x c.in-Components.constraints))) c.in-Some.is ∙
    structure_said c.in-Structured.word c.in-Some.components c.in-Components.constraints)
    (subst (λ ys. Marks (AnyFirst (ComponentFirsts (DenotedFirsts ms m)) ys) c.args.names.now c.loop-k.names) items
    (marked_end (ComponentFirsts (DenotedFirsts ms m)) c.deref-component-items.result.now c.loop-k.k
    c.loop-k-test.false (c.loop-k.invariant ms m d)))

pub mark_defaults-returns-in-None : goal.mark_defaults-returns-in-None
mark_defaults-returns-in-None t c = λ ms m d.
    structure_walked ms m (type_term c.args.of.now) c.in-Structured.word [] (limit_terms c.in-Components.constraints)
    (ap type_term c.in-Structured.is ∙ ap (λ x. type_term (Structured c.in-Structured.word x)) c.in-Components.is ∙
    ap (λ x. type_term (Structured c.in-Structured.word (Components x c.in-Components.constraints))) c.in-None.is)
    (none_marked (AnyFirst (ComponentFirsts (DenotedFirsts ms m)) []) c.args.names.now (λ u h. h))

pub mark_defaults-returns-in-ListOf : goal.mark_defaults-returns-in-ListOf
mark_defaults-returns-in-ListOf t c = λ ms m.
    let inner : c.deref-in-ListOf.result.now ≡ c.in-ListOf.of.value = search rules in
    let under = option_map (λ one. one.now) c.beneath-in-ListOf.result in
    list_walked ms m (type_term c.args.of.now) c.in-Structured.word (option_map range_terms c.in-ListOf.size)
    (type_term c.in-ListOf.of.value) (option_map (λ one. one.now) c.args.syntax) under
    (ap type_term c.in-Structured.is ∙ ap (λ x. type_term (Structured c.in-Structured.word x)) c.in-ListOf.is)
    c.beneath-in-ListOf.ensures
    (subst (λ (x : TypeText). DenotesThis ms m (type_term x) under →
    Marks (DefaultFirsts (DenotedFirsts ms m) (type_term x)) c.args.names.now c.mark_defaults-in-ListOf.new.names) inner
    (c.mark_defaults-in-ListOf.ensures ms m))

pub mark_defaults-returns-after-loop-k-2 : goal.mark_defaults-returns-after-loop-k-2
mark_defaults-returns-after-loop-k-2 t c = λ ms m d.
    let xs = c.in-Choice.alternatives.items in
    let items : c.deref-alternative-items.result.now ≡ xs = search rules in
    choice_walked ms m (type_term c.args.of.now) c.in-Choice.word xs (limit_terms c.in-Choice.constraints)
    (ap type_term c.in-Choice.is ∙ choice_said c.in-Choice.word c.in-Choice.alternatives c.in-Choice.constraints)
    (subst (λ ys. Marks (AnyFirst (AlternativeFirsts (DenotedFirsts ms m)) ys) c.args.names.now c.loop-k-2.names) items
    (marked_end (AlternativeFirsts (DenotedFirsts ms m)) c.deref-alternative-items.result.now c.loop-k-2.k
    c.loop-k-2-test.false (c.loop-k-2.invariant ms m d)))
