-- A type under a tag, a list, a structure and a choice.
use Rattle.std.proofs.Common.{rules, ◌≡◌, ◌∙◌, OnOk, ap, arith, length, refl, sym}
use Rattle.std.proofs.Math.Path.{subst}
use Rattle.std.proofs.lemmas.Option.{slice_get_read}
use Rattle.asn1_syntax.specs.declared.type_text.StructureText.TheVariants.{Components}
use Rattle.asn1_syntax.specs.declared.type_text.TypeText.{TypeText}
use Rattle.asn1_syntax.specs.declared.type_text.TypeText.TheVariants.{Structured}
use Rattle.asn1_names.specs.ModuleTerms.PresenceTerm.{Needed}
use Rattle.asn1_names.specs.TermViews.{limit_terms, module_terms, presence_term, type_term}
use Rattle.asn1_numbers.specs.NamedTargets.{AddsFirst, AddsNamed, alternative_members, component_members}
use Rattle.asn1_numbers.proofs.MemberRows.{all_alternatives, all_components, alternative_at, choice_said}
use Rattle.asn1_numbers.proofs.MemberRows.{component_at, structure_said}
use Rattle.asn1_numbers.proofs.TargetLaws.{AreAll, adds_alternatives, adds_repeated, adds_structure, adds_under}
use Rattle.asn1_numbers.proofs.TargetLaws.{first_step, ok_by}
use Rattle.asn1_numbers.proofs.containment.+push_targets.Goals as goal

pub loop-component-preserved : goal.loop-component-preserved
loop-component-preserved t c =
    let xs = c.deref-component-items.result.now in
    let k = c.loop-component.component-index in
    let x = c.component-item.result in
    first_step (module_terms c.args.tables.now) c.args.home (component_members xs) k (type_term x.of)
    (presence_term x.presence) c.args.targets.now.items c.loop-component.targets.items
    c.push_targets-in-loop-component.new.targets.items
    (component_at xs k x (slice_get_read xs (length xs) k x refl c.loop-component-test.true c.component-item.is))
    c.loop-component.invariant c.in_ok-push_targets-in-Components.ensures

pub loop-alternative-preserved : goal.loop-alternative-preserved
loop-alternative-preserved t c =
    let xs = c.deref-alternative-items.result.now in
    let k = c.loop-alternative.alternative-index in
    let x = c.alternative-item.result in
    first_step (module_terms c.args.tables.now) c.args.home (alternative_members xs) k (type_term x.of)
    Needed c.args.targets.now.items c.loop-alternative.targets.items
    c.push_targets-in-loop-alternative.new.targets.items
    (alternative_at xs k x (slice_get_read xs (length xs) k x refl c.loop-alternative-test.true c.alternative-item.is))
    c.loop-alternative.invariant c.in_ok-push_targets-in-Choice.ensures

pub returns-in-Tagged : goal.returns-in-Tagged
returns-in-Tagged t c =
    let ms = module_terms c.args.tables.now in
    let old = c.args.targets.now.items in
    let new = c.push_targets.new.targets.items in
    let inner : c.deref.result.now ≡ c.in-Tagged.inner.value = search rules in
    ok_by c.push_targets.result
    (λ adds. subst (λ x. AddsNamed ms c.args.home x old new) (sym (ap type_term c.in-Tagged.is))
    (adds_under ms c.args.home _ _ _ old new
    (subst (λ (x : TypeText). AddsNamed ms c.args.home (type_term x) old new) inner adds)))
    c.push_targets.ensures

pub returns-after-loop-component : goal.returns-after-loop-component
returns-after-loop-component t c =
    let ms = module_terms c.args.tables.now in
    let old = c.args.targets.now.items in
    let new = c.loop-component.targets.items in
    let xs = c.in-Some.components.items in
    let k = c.loop-component.component-index in
    let items : c.deref-component-items.result.now ≡ xs = search rules in
    let firsts : AddsFirst ms c.args.home (component_members xs) k old new =
    subst (λ ys. AddsFirst ms c.args.home (component_members ys) k old new) items c.loop-component.invariant in
    let many : length xs ≡ k =
    (let e = ap (λ ys. length ys) items in let t = c.loop-component-test.false in
    let u = c.loop-component.auto.component-index-end in omega (arith, e, t, u)) in
    subst (λ x. AddsNamed ms c.args.home x old new)
    (sym (ap type_term c.in-Structured.is ∙ ap (λ x. type_term (Structured c.in-Structured.word x)) c.in-Components.is ∙
    ap (λ x. type_term (Structured c.in-Structured.word (Components x c.in-Components.constraints))) c.in-Some.is ∙
    structure_said c.in-Structured.word c.in-Some.components c.in-Components.constraints))
    (adds_structure ms c.args.home (component_members xs) k c.in-Structured.word
    (limit_terms c.in-Components.constraints) old new
    (subst (λ n. AreAll (component_members xs) n) many (all_components xs)) firsts)

pub returns-in-ListOf : goal.returns-in-ListOf
returns-in-ListOf t c =
    let ms = module_terms c.args.tables.now in
    let old = c.args.targets.now.items in
    let new = c.push_targets-in-ListOf.new.targets.items in
    let inner : c.deref-in-ListOf.result.now ≡ c.in-ListOf.inner.value = search rules in
    ok_by c.push_targets-in-ListOf.result
    (λ adds. subst (λ x. AddsNamed ms c.args.home x old new)
    (sym (ap type_term c.in-Structured.is ∙ ap (λ x. type_term (Structured c.in-Structured.word x)) c.in-ListOf.is))
    (adds_repeated ms c.args.home _ _ _ old new
    (subst (λ (x : TypeText). AddsNamed ms c.args.home (type_term x) old new) inner adds)))
    c.push_targets-in-ListOf.ensures

pub returns-after-loop-alternative : goal.returns-after-loop-alternative
returns-after-loop-alternative t c =
    let ms = module_terms c.args.tables.now in
    let old = c.args.targets.now.items in
    let new = c.loop-alternative.targets.items in
    let xs = c.in-Choice.alternatives.items in
    let k = c.loop-alternative.alternative-index in
    let items : c.deref-alternative-items.result.now ≡ xs = search rules in
    let firsts : AddsFirst ms c.args.home (alternative_members xs) k old new =
    subst (λ ys. AddsFirst ms c.args.home (alternative_members ys) k old new) items c.loop-alternative.invariant in
    let many : length xs ≡ k =
    (let e = ap (λ ys. length ys) items in let t = c.loop-alternative-test.false in
    let u = c.loop-alternative.auto.alternative-index-end in omega (arith, e, t, u)) in
    subst (λ x. AddsNamed ms c.args.home x old new)
    (sym (ap type_term c.in-Choice.is ∙
    choice_said c.in-Choice.word c.in-Choice.alternatives c.in-Choice.constraints))
    (adds_alternatives ms c.args.home (alternative_members xs) k c.in-Choice.word
    (limit_terms c.in-Choice.constraints) old new
    (subst (λ n. AreAll (alternative_members xs) n) many (all_alternatives xs)) firsts)

pub returns-in-Plain : goal.returns-in-Plain
returns-in-Plain t c =
    subst (λ x. OnOk c.push_plain_targets.result (AddsNamed (module_terms c.args.tables.now) c.args.home x
    c.args.targets.now.items c.push_plain_targets.new.targets.items))
    (sym (ap type_term c.in-Plain.is)) (c.push_plain_targets.ensures (limit_terms c.in-Plain.constraints))
