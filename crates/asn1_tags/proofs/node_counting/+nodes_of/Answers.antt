-- The nodes of a type: those of its parts, and itself.
use Rattle.std.proofs.Common.{[], map, sym, subst}
use Rattle.std.specs.Prelude.{option_map}
use Rattle.asn1_names.specs.TermViews.{limit_terms, module_terms, range_terms, tag_term, type_term}
use Rattle.asn1_names.specs.TypeWalks.{IsNoName}
use Rattle.asn1_tags.specs.KnownFacts.{AreKnown, HasCount, KnowsNodes}
use Rattle.asn1_tags.specs.MemberRows.{alternative_row, component_row, members}
use Rattle.asn1_tags.proofs.CountLaws.{choice_count, no_sum, plain_count, repeated_count, structure_count, sum_end}
use Rattle.asn1_tags.proofs.CountLaws.{sum_step}
use Rattle.asn1_tags.proofs.CountLaws.{tagged_count}
use Rattle.asn1_tags.proofs.MemberLists.{choice_term, components_term, list_of_term, member_at, no_components_term}
use Rattle.asn1_tags.proofs.MemberLists.{plain_term_is, tagged_term}
use Rattle.asn1_tags.proofs.NamedTypes.{alternative_known, component_known, element_known, tagged_known}
use Rattle.asn1_tags.proofs.node_counting.+nodes_of.Goals as goal

pub loop-component-init : goal.loop-component-init
loop-component-init t c = λ known. no_sum

pub loop-component-preserved : goal.loop-component-preserved
loop-component-preserved t c = λ known.
    let xs = c.deref-component-items.result.now in
    let i = c.loop-component.component-index in
    let x = c.component-item.result in
    let is = components_term c.args.of.now c.in-Structured.word c.in-Structured.content c.in-Components.components
    c.in-Components.constraints c.in-Some.components xs c.in-Structured.is c.in-Components.is c.in-Some.is
    c.deref-component-items.ensures.value in
    let member = member_at component_row xs i x c.loop-component-test.true c.component-item.is in
    let ms = module_terms c.args.known.now.tables.now in
    let part = component_known c.in-Structured.word (members (map component_row xs))
    (limit_terms c.in-Components.constraints) (component_row x).of (component_row x).presence member
    (subst (AreKnown (KnowsNodes ms c.args.known.now.nodes.now) ms c.args.known.now.cyclic.now c.args.home) is known) in
    sum_step component_row xs i x c.loop-component.sum c.nodes_of-in-loop-component.result c.saturating_add-sum.result
    c.loop-component-test.true c.component-item.is (c.loop-component.invariant known)
    (c.nodes_of-in-loop-component.ensures part) c.saturating_add-sum.ensures

pub loop-alternative-init : goal.loop-alternative-init
loop-alternative-init t c = λ known. no_sum

pub loop-alternative-preserved : goal.loop-alternative-preserved
loop-alternative-preserved t c = λ known.
    let xs = c.deref-alternative-items.result.now in
    let i = c.loop-alternative.alternative-index in
    let x = c.alternative-item.result in
    let is = choice_term c.args.of.now c.in-Choice.word c.in-Choice.alternatives c.in-Choice.constraints xs
    c.in-Choice.is c.deref-alternative-items.ensures.value in
    let member = member_at alternative_row xs i x c.loop-alternative-test.true c.alternative-item.is in
    let ms = module_terms c.args.known.now.tables.now in
    let part = alternative_known c.in-Choice.word (members (map alternative_row xs))
    (limit_terms c.in-Choice.constraints) (alternative_row x).of (alternative_row x).presence member
    (subst (AreKnown (KnowsNodes ms c.args.known.now.nodes.now) ms c.args.known.now.cyclic.now c.args.home) is known) in
    sum_step alternative_row xs i x c.loop-alternative.sum c.nodes_of-in-loop-alternative.result
    c.saturating_add-sum-in-loop-alternative.result c.loop-alternative-test.true c.alternative-item.is
    (c.loop-alternative.invariant known) (c.nodes_of-in-loop-alternative.ensures part)
    c.saturating_add-sum-in-loop-alternative.ensures

pub returns-in-Tagged : goal.returns-in-Tagged
returns-in-Tagged t c = λ known.
    let ms = module_terms c.args.known.now.tables.now in
    let of = type_term c.deref.result.now in
    let is = tagged_term c.args.of.now c.in-Tagged.tag c.in-Tagged.mode c.in-Tagged.of c.deref.result.now
    c.in-Tagged.is c.deref.ensures in
    let part = tagged_known (tag_term c.in-Tagged.tag.value) c.in-Tagged.mode of
    (subst (AreKnown (KnowsNodes ms c.args.known.now.nodes.now) ms c.args.known.now.cyclic.now c.args.home) is
    known) in
    subst (λ x. HasCount ms c.args.home x c.saturating_add.result) (sym is)
    (tagged_count (tag_term c.in-Tagged.tag.value) c.in-Tagged.mode of c.nodes_of.result c.saturating_add.result
    (c.nodes_of.ensures part) c.saturating_add.ensures)

pub returns-after-loop-component : goal.returns-after-loop-component
returns-after-loop-component t c = λ known.
    let xs = c.deref-component-items.result.now in
    let ms = module_terms c.args.known.now.tables.now in
    subst (λ of. HasCount ms c.args.home of c.loop-component.sum) (sym (components_term c.args.of.now
    c.in-Structured.word c.in-Structured.content c.in-Components.components c.in-Components.constraints
    c.in-Some.components xs c.in-Structured.is c.in-Components.is c.in-Some.is
    c.deref-component-items.ensures.value))
    (structure_count c.in-Structured.word (map component_row xs) (limit_terms c.in-Components.constraints)
    c.loop-component.sum (sum_end component_row xs c.loop-component.component-index c.loop-component.sum
    c.loop-component-test.false (c.loop-component.invariant known)))

pub returns-in-None : goal.returns-in-None
returns-in-None t c = λ known.
    let ms = module_terms c.args.known.now.tables.now in
    subst (λ of. HasCount ms c.args.home of 1) (sym (no_components_term c.args.of.now
    c.in-Structured.word c.in-Structured.content c.in-Components.components c.in-Components.constraints
    c.in-Structured.is c.in-Components.is c.in-None.is))
    (structure_count c.in-Structured.word [] (limit_terms c.in-Components.constraints) 1 no_sum)

pub returns-in-ListOf : goal.returns-in-ListOf
returns-in-ListOf t c = λ known.
    let ms = module_terms c.args.known.now.tables.now in
    let of = type_term c.deref-in-ListOf.result.now in
    let size = option_map range_terms c.in-ListOf.size in
    let is = list_of_term c.args.of.now c.in-Structured.word c.in-Structured.content c.in-ListOf.size c.in-ListOf.of
    c.deref-in-ListOf.result.now c.in-Structured.is c.in-ListOf.is c.deref-in-ListOf.ensures in
    let part = element_known c.in-Structured.word size of
    (subst (AreKnown (KnowsNodes ms c.args.known.now.nodes.now) ms c.args.known.now.cyclic.now c.args.home) is
    known) in
    subst (λ x. HasCount ms c.args.home x c.saturating_add-in-ListOf.result) (sym is)
    (repeated_count c.in-Structured.word size of c.nodes_of-in-ListOf.result c.saturating_add-in-ListOf.result
    (c.nodes_of-in-ListOf.ensures part) c.saturating_add-in-ListOf.ensures)

pub returns-after-loop-alternative : goal.returns-after-loop-alternative
returns-after-loop-alternative t c = λ known.
    let xs = c.deref-alternative-items.result.now in
    let ms = module_terms c.args.known.now.tables.now in
    subst (λ of. HasCount ms c.args.home of c.loop-alternative.sum) (sym (choice_term c.args.of.now c.in-Choice.word
    c.in-Choice.alternatives c.in-Choice.constraints xs c.in-Choice.is c.deref-alternative-items.ensures.value))
    (choice_count c.in-Choice.word (map alternative_row xs) (limit_terms c.in-Choice.constraints)
    c.loop-alternative.sum (sum_end alternative_row xs c.loop-alternative.alternative-index c.loop-alternative.sum
    c.loop-alternative-test.false (c.loop-alternative.invariant known)))

pub returns-in-Some-name_of : goal.returns-in-Some-name_of
returns-in-Some-name_of t c = λ known.
    let ms = module_terms c.args.known.now.tables.now in
    let is = c.in-Some-name_of.ensures in
    subst (λ x. HasCount ms c.args.home x c.named_nodes.result) (sym is.1) (c.named_nodes.ensures is.0
    (subst (AreKnown (KnowsNodes ms c.args.known.now.nodes.now) ms c.args.known.now.cyclic.now c.args.home) is.1
    known))

pub returns-in-None-name_of : goal.returns-in-None-name_of
returns-in-None-name_of t c = λ known.
    let is = plain_term_is c.args.of.now c.in-Plain.of c.in-Plain.constraints c.in-Plain.is in
    subst (λ x. HasCount (module_terms c.args.known.now.tables.now) c.args.home x 1) (sym is)
    (plain_count c.in-Plain.of (limit_terms c.in-Plain.constraints) (subst IsNoName is c.in-None-name_of.ensures))
