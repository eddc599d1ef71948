-- The faults of a type itself, and those of the types that stand in it.
use Rattle.std.proofs.Common.{◌∙◌, List, [], Option, ap, arith, option_map, sym}
use Rattle.std.proofs.Math.Path.{subst}
use Rattle.std.specs.Prelude.{IsTrue}
use Rattle.std.specs.declared.alloc.Global.{Global}
use Rattle.std.specs.declared.vec.Vec.{Vec}
use Rattle.asn1_syntax.specs.declared.type_text.Alternative.{Alternative}
use Rattle.asn1_syntax.specs.declared.type_text.Component.{Component}
use Rattle.asn1_syntax.specs.declared.type_text.StructureText.{StructureText}
use Rattle.asn1_syntax.specs.declared.type_text.StructureText.TheVariants.{Components}
use Rattle.asn1_syntax.specs.declared.type_text.TypeText.{TypeText}
use Rattle.asn1_syntax.specs.declared.type_text.TypeText.TheVariants.{Structured}
use Rattle.asn1_names.specs.Containment.{IsMember}
use Rattle.asn1_names.specs.ModuleTerms.{TypeTerm}
use Rattle.asn1_names.specs.ModuleTerms.PresenceTerm.{Needed}
use Rattle.asn1_names.specs.ModuleTerms.TypeTerm.{Alternatives, Structure}
use Rattle.asn1_names.specs.TermViews.{limit_terms, module_terms, presence_term, range_terms, tag_term, type_term}
use Rattle.asn1_resolve.specs.FaultSets.{In, IsFirstOf}
use Rattle.asn1_resolve.specs.TypeFaults.{IsFew, OwnFaults, TypeFaults}
use Rattle.asn1_resolve.proofs.RowLaws.{AlternativeFaults, ComponentFaults, alternative_at, alternative_members}
use Rattle.asn1_resolve.proofs.RowLaws.{choice_end}
use Rattle.asn1_resolve.proofs.RowLaws.{choice_type, component_members}
use Rattle.asn1_resolve.proofs.RowLaws.{component_at, list_end, own_start, own_step, plain_end}
use Rattle.asn1_resolve.proofs.RowLaws.{structure_end, structure_type, tagged_end}
use Rattle.asn1_resolve.proofs.TypeLaws.{few_alternatives, few_repeated, few_structure, few_under}
use Rattle.asn1_resolve.proofs.type_faults.+judge_type.Goals as goal

pub loop-component-init : goal.loop-component-init
loop-component-init t c = λ few.
    own_start (OwnFaults (IsTrue c.args.told) (module_terms c.args.facts.now) c.args.home.module
    (type_term c.args.of.now)) (ComponentFaults (IsTrue c.args.told) (module_terms c.args.facts.now)
    c.args.home.module) (c.in_ok-first.ensures few)

pub loop-component-preserved : goal.loop-component-preserved
loop-component-preserved t c = λ few.
    let ms = module_terms c.args.facts.now in
    let m = c.args.home.module in
    let components = c.in-Some.components in
    let whole = ap type_term (c.in-Structured.is ∙ ap (λ (x : StructureText). Structured c.in-Structured.word x)
    (c.in-Components.is ∙ ap (λ (x : Option (Vec Component Global)). Components x c.in-Components.constraints)
    c.in-Some.is)) ∙ structure_type c.in-Structured.word components c.in-Components.constraints in
    let items = c.deref-component-items.ensures.value in
    let member = component_at c.deref-component-items.result.now c.loop-component.component-index
    c.component-item.result c.loop-component-test.true c.component-item.is in
    let inner : IsTrue c.args.told → IsFew ms m (type_term c.component-item.result.of) = λ told.
    few_structure (subst (λ (x : TypeTerm). IsFew ms m x) whole (few told))
    (subst (λ (xs : List Component). IsMember (component_members xs) c.loop-component.component-index
    (type_term c.component-item.result.of) (presence_term c.component-item.result.presence)) items member) in
    own_step (OwnFaults (IsTrue c.args.told) ms m (type_term c.args.of.now))
    (ComponentFaults (IsTrue c.args.told) ms m) c.deref-component-items.result.now c.loop-component.component-index
    c.component-item.result c.loop-component-test.true c.component-item.is c.earlier-first.ensures
    (c.loop-component.invariant few) (c.in_ok-within-in-Some.ensures inner)

pub loop-alternative-init : goal.loop-alternative-init
loop-alternative-init t c = λ few.
    own_start (OwnFaults (IsTrue c.args.told) (module_terms c.args.facts.now) c.args.home.module
    (type_term c.args.of.now)) (AlternativeFaults (IsTrue c.args.told) (module_terms c.args.facts.now)
    c.args.home.module) (c.in_ok-first.ensures few)

pub loop-alternative-preserved : goal.loop-alternative-preserved
loop-alternative-preserved t c = λ few.
    let ms = module_terms c.args.facts.now in
    let m = c.args.home.module in
    let whole = ap type_term c.in-Choice.is ∙
    choice_type c.in-Choice.word c.in-Choice.alternatives c.in-Choice.constraints in
    let items = c.deref-alternative-items.ensures.value in
    let member = alternative_at c.deref-alternative-items.result.now c.loop-alternative.alternative-index
    c.alternative-item.result c.loop-alternative-test.true c.alternative-item.is in
    let inner : IsTrue c.args.told → IsFew ms m (type_term c.alternative-item.result.of) = λ told.
    few_alternatives (subst (λ (x : TypeTerm). IsFew ms m x) whole (few told))
    (subst (λ (xs : List Alternative). IsMember (alternative_members xs) c.loop-alternative.alternative-index
    (type_term c.alternative-item.result.of) Needed) items member) in
    own_step (OwnFaults (IsTrue c.args.told) ms m (type_term c.args.of.now))
    (AlternativeFaults (IsTrue c.args.told) ms m) c.deref-alternative-items.result.now
    c.loop-alternative.alternative-index c.alternative-item.result c.loop-alternative-test.true c.alternative-item.is
    c.earlier-first-in-loop-alternative.ensures (c.loop-alternative.invariant few)
    (c.in_ok-within-in-Choice.ensures inner)

pub returns-in_ok-judge_type-in-Tagged : goal.returns-in_ok-judge_type-in-Tagged
returns-in_ok-judge_type-in-Tagged t c = λ few.
    let ms = module_terms c.args.facts.now in
    let m = c.args.home.module in
    let is = ap type_term c.in-Tagged.is in
    let inner = ap (λ (x : TypeText). type_term x) c.deref.ensures in
    tagged_end (IsTrue c.args.told) ms c.args.home.document m (type_term c.args.of.now)
    (tag_term c.in-Tagged.tag.value) c.in-Tagged.mode (type_term c.in-Tagged.inner.value) is c.earlier.ensures
    (c.in_ok-first.ensures few)
    (subst (λ (x : TypeTerm). IsFirstOf (In c.args.home.document (TypeFaults (IsTrue c.args.told) ms m x))
    c.in_ok-judge_type-in-Tagged.field-0) inner
    (c.in_ok-judge_type-in-Tagged.ensures (λ told. subst (λ (x : TypeTerm). IsFew ms m x) (sym inner)
    (few_under (subst (λ (x : TypeTerm). IsFew ms m x) is (few told))))))

pub returns-after-loop-component : goal.returns-after-loop-component
returns-after-loop-component t c = λ few.
    let ms = module_terms c.args.facts.now in
    let m = c.args.home.module in
    let components = c.in-Some.components in
    let whole = ap type_term (c.in-Structured.is ∙ ap (λ (x : StructureText). Structured c.in-Structured.word x)
    (c.in-Components.is ∙ ap (λ (x : Option (Vec Component Global)). Components x c.in-Components.constraints)
    c.in-Some.is)) ∙ structure_type c.in-Structured.word components c.in-Components.constraints in
    structure_end (IsTrue c.args.told) ms c.args.home.document m c.in-Structured.word
    c.deref-component-items.result.now (limit_terms c.in-Components.constraints) (type_term c.args.of.now)
    c.loop-component.component-index c.loop-component.first
    (whole ∙ ap (λ (xs : List Component). Structure c.in-Structured.word (component_members xs)
    (limit_terms c.in-Components.constraints)) (sym c.deref-component-items.ensures.value)) c.loop-component-test.false
    (c.loop-component.invariant few)

pub returns-in-None : goal.returns-in-None
returns-in-None t c = λ few.
    let is = ap type_term (c.in-Structured.is ∙ ap (λ (x : StructureText). Structured c.in-Structured.word x)
    (c.in-Components.is ∙ ap (λ (x : Option (Vec Component Global)). Components x c.in-Components.constraints)
    c.in-None.is)) in
    structure_end (IsTrue c.args.told) (module_terms c.args.facts.now) c.args.home.document c.args.home.module
    c.in-Structured.word [] (limit_terms c.in-Components.constraints) (type_term c.args.of.now) 0 c.in_ok-first.first is
    (omega arith)
    (own_start (OwnFaults (IsTrue c.args.told) (module_terms c.args.facts.now) c.args.home.module
    (type_term c.args.of.now)) (ComponentFaults (IsTrue c.args.told) (module_terms c.args.facts.now)
    c.args.home.module) (c.in_ok-first.ensures few))

pub returns-in_ok-judge_type-in-ListOf : goal.returns-in_ok-judge_type-in-ListOf
returns-in_ok-judge_type-in-ListOf t c = λ few.
    let ms = module_terms c.args.facts.now in
    let m = c.args.home.module in
    let is = ap type_term (c.in-Structured.is ∙ ap (λ (x : StructureText). Structured c.in-Structured.word x)
    c.in-ListOf.is) in
    let inner = ap (λ (x : TypeText). type_term x) c.deref-in-ListOf.ensures in
    list_end (IsTrue c.args.told) ms c.args.home.document m (type_term c.args.of.now) c.in-Structured.word
    (option_map range_terms c.in-ListOf.size) (type_term c.in-ListOf.element.value) is c.earlier-in-ListOf.ensures
    (c.in_ok-first.ensures few)
    (subst (λ (x : TypeTerm). IsFirstOf (In c.args.home.document (TypeFaults (IsTrue c.args.told) ms m x))
    c.in_ok-judge_type-in-ListOf.field-0) inner
    (c.in_ok-judge_type-in-ListOf.ensures (λ told. subst (λ (x : TypeTerm). IsFew ms m x) (sym inner)
    (few_repeated (subst (λ (x : TypeTerm). IsFew ms m x) is (few told))))))

pub returns-after-loop-alternative : goal.returns-after-loop-alternative
returns-after-loop-alternative t c = λ few.
    let ms = module_terms c.args.facts.now in
    let m = c.args.home.module in
    let whole = ap type_term c.in-Choice.is ∙
    choice_type c.in-Choice.word c.in-Choice.alternatives c.in-Choice.constraints in
    choice_end (IsTrue c.args.told) ms c.args.home.document m c.in-Choice.word
    c.deref-alternative-items.result.now (limit_terms c.in-Choice.constraints) (type_term c.args.of.now)
    c.loop-alternative.alternative-index c.loop-alternative.first
    (whole ∙ ap (λ (xs : List Alternative). Alternatives c.in-Choice.word (alternative_members xs)
    (limit_terms c.in-Choice.constraints)) (sym c.deref-alternative-items.ensures.value))
    c.loop-alternative-test.false (c.loop-alternative.invariant few)

pub returns-in-Plain : goal.returns-in-Plain
returns-in-Plain t c = λ few.
    let ms = module_terms c.args.facts.now in
    let m = c.args.home.module in
    subst (λ (x : TypeText). IsFirstOf (In c.args.home.document (TypeFaults (IsTrue c.args.told) ms m (type_term x)))
    c.in_ok-first.first) (sym c.in-Plain.is)
    (plain_end (IsTrue c.args.told) ms c.args.home.document m c.in-Plain.of (limit_terms c.in-Plain.constraints)
    c.in_ok-first.first
    (subst (λ (x : TypeText). IsFirstOf (In c.args.home.document (OwnFaults (IsTrue c.args.told) ms m (type_term x)))
    c.in_ok-first.first) c.in-Plain.is (c.in_ok-first.ensures few)))
