-- The syntaxes of types, and of their parts.
use Rattle.std.proofs.Common.{◌∙◌, ◌+◌, [], ap, arith, map, option_map, refl, sym}
use Rattle.std.proofs.Math.Path.{subst}
use Rattle.std.proofs.lemmas.Result.{IfOk-weaker}
use Rattle.term_values.specs.SyntaxView.{syntax_of}
use Rattle.asn1_syntax.specs.declared.type_text.StructureText.TheVariants.{Components}
use Rattle.asn1_names.specs.Constraining.{Constrains}
use Rattle.asn1_names.specs.DenotedSyntax.{Denotes, MembersDenote}
use Rattle.asn1_names.specs.DenotedSyntax.MembersDenote.{no_members}
use Rattle.asn1_names.specs.ModuleTerms.{TypeTerm}
use Rattle.asn1_names.specs.ModuleTerms.MemberTerms.{NoMembers}
use Rattle.asn1_names.specs.ModuleTerms.TypeTerm.{Under}
use Rattle.asn1_names.specs.WholeNumbers.{IsTag}
use Rattle.term_values.specs.declared.tag.Tag.{Tag as SaidTag}
use Rattle.asn1_names.specs.TermViews.{limit_term, limit_terms, module_terms, range_terms, structure_term, tag_term}
use Rattle.asn1_names.specs.TermViews.{type_term}
use Rattle.asn1_types.specs.BuiltSyntaxes.{TakesLimits, alternative_member, component_member}
use Rattle.asn1_types.specs.MeasuredTypes.{AreMeasured, IsMeasured, members_listed}
use Rattle.asn1_types.specs.NextTypes.{LeadsTo}
use Rattle.asn1_types.proofs.BuildingLaws.{alternatives_are, choice_built, components_are, depth_left, end_measured}
use Rattle.asn1_types.proofs.BuildingLaws.{list_built, no_depth, plain_built, structure_built, tag_built}
use Rattle.asn1_types.proofs.MemberLaws.{members_end, members_none, members_step}
use Rattle.asn1_types.proofs.building.Builder.+syntaxes.Goals as goal

pub components-loop-component-init : goal.components-loop-component-init
components-loop-component-init n c = λ all. members_none c.new-items.result.items c.new-items.ensures.items

pub components-loop-component-preserved : goal.components-loop-component-preserved
components-loop-component-preserved n c =
    members_step (module_terms c.args.self.now.numbers.now) c.args.home c.args.depth component_member
    c.args.components.now c.loop-component.component-index c.component-item.result c.in_ok-one.one c.in_ok-syntax.syntax
    c.loop-component.items.items c.push.new.self.items _ c.loop-component-test.true c.component-item.is
    c.in_ok-one.ensures c.may_be_absent-optional.ensures c.in_ok-push.ensures.items c.in_ok-syntax.ensures
    c.loop-component.invariant

pub components-returns : goal.components-returns
components-returns n c =
    members_end (module_terms c.args.self.now.numbers.now) c.args.home c.args.depth component_member
    c.args.components.now c.loop-component.component-index c.loop-component.items.items c.parts_of.result
    c.loop-component-test.false c.loop-component.invariant c.parts_of.ensures

pub alternatives-loop-alternative-init : goal.alternatives-loop-alternative-init
alternatives-loop-alternative-init n c = λ all. members_none c.new-items.result.items c.new-items.ensures.items

pub alternatives-loop-alternative-preserved : goal.alternatives-loop-alternative-preserved
alternatives-loop-alternative-preserved n c =
    members_step (module_terms c.args.self.now.numbers.now) c.args.home c.args.depth alternative_member
    c.args.alternatives.now c.loop-alternative.alternative-index c.alternative-item.result c.in_ok-one.one
    c.in_ok-syntax.syntax c.loop-alternative.items.items c.push.new.self.items _ c.loop-alternative-test.true
    c.alternative-item.is c.in_ok-one.ensures refl c.in_ok-push.ensures.items c.in_ok-syntax.ensures
    c.loop-alternative.invariant

pub alternatives-returns : goal.alternatives-returns
alternatives-returns n c =
    members_end (module_terms c.args.self.now.numbers.now) c.args.home c.args.depth alternative_member
    c.args.alternatives.now c.loop-alternative.alternative-index c.loop-alternative.items.items c.parts_of.result
    c.loop-alternative-test.false c.loop-alternative.invariant c.parts_of.ensures

pub structure-returns-in_ok-parts-in-Some : goal.structure-returns-in_ok-parts-in-Some
structure-returns-in_ok-parts-in-Some n c =
    let ms = module_terms c.args.self.now.numbers.now in
    let arm = c.in-Components in
    let parts = c.in_ok-parts-in-Some.parts in
    structure_built ms c.args.home c.args.depth _ c.args.word.now (map component_member c.in-Some.components.items)
    (limit_terms arm.constraints) parts c.structure_of.result
    (ap (structure_term c.args.word.now) (arm.is ∙ ap (λ x. Components x arm.constraints) c.in-Some.is) ∙
    components_are c.args.word.now c.in-Some.components arm.constraints)
    (subst (λ xs. AreMeasured ms c.args.home (map component_member xs) c.args.depth →
    MembersDenote ms c.args.home (members_listed (map component_member xs)) parts) c.as_slice.ensures.value
    c.in_ok-parts-in-Some.ensures)
    (c.structure_of.ensures ms c.args.home (members_listed (map component_member c.in-Some.components.items)))

pub structure-returns-in-None : goal.structure-returns-in-None
structure-returns-in-None n c =
    let ms = module_terms c.args.self.now.numbers.now in
    let arm = c.in-Components in
    structure_built ms c.args.home c.args.depth _ c.args.word.now [] (limit_terms arm.constraints) c.no_parts.result
    c.structure_of-in-None.result
    (ap (structure_term c.args.word.now) (arm.is ∙ ap (λ x. Components x arm.constraints) c.in-None.is))
    (λ all. subst (λ p. MembersDenote ms c.args.home NoMembers p) (sym c.no_parts.ensures) no_members)
    (c.structure_of-in-None.ensures ms c.args.home NoMembers)

pub structure-returns-in_ok-element-in-ListOf : goal.structure-returns-in_ok-element-in-ListOf
structure-returns-in_ok-element-in-ListOf n c = IfOk-weaker c.list_of.result _ _ (λ left list.
    let ms = module_terms c.args.self.now.numbers.now in
    let element = c.in_ok-element-in-ListOf.element in
    list_built ms c.args.home c.args.depth _ c.args.word.now (option_map range_terms c.in-ListOf.size)
    (type_term c.in-ListOf.of.value) element left (ap (structure_term c.args.word.now) c.in-ListOf.is)
    (subst (λ t. IsMeasured ms c.args.home (type_term t) c.args.depth → Denotes ms c.args.home (type_term t) element)
    c.deref.ensures c.in_ok-element-in-ListOf.ensures) list) c.list_of.ensures

pub syntax_within-returns-in-Some : goal.syntax_within-returns-in-Some
syntax_within-returns-in-Some n c = IfOk-weaker c.syntax_of_standard.result _ _ (λ syntax told measured.
    told measured.document c.args.home (type_term c.args.of.now) measured.faultless measured.stands
    (subst (λ s. LeadsTo (module_terms c.args.self.now.numbers.now) c.args.home (type_term c.args.of.now)
    c.in_ok-followed.followed s) c.in-Some.is
    (c.in_ok-followed.ensures measured.document measured.faultless measured.stands))) c.syntax_of_standard.ensures

pub syntax_within-returns-then-depth-eq0 : goal.syntax_within-returns-then-depth-eq0
syntax_within-returns-then-depth-eq0 n c = λ measured.
    absurd (no_depth c.in_ok-followed.followed
    (subst (λ s. LeadsTo (module_terms c.args.self.now.numbers.now) c.args.home (type_term c.args.of.now)
    c.in_ok-followed.followed s) c.in_default.is
    (c.in_ok-followed.ensures measured.document measured.faultless measured.stands)) c.if-depth-eq0.true measured)

pub syntax_within-returns : goal.syntax_within-returns
syntax_within-returns n c = IfOk-weaker c.syntax_of_named.result _ _ (λ left told measured.
    let ms = module_terms c.args.self.now.numbers.now in
    let of = type_term c.args.of.now in
    let followed = c.in_ok-followed.followed in
    let to = subst (λ s. LeadsTo ms c.args.home of followed s) c.in_default.is
    (c.in_ok-followed.ensures measured.document measured.faultless measured.stands) in
    told measured.document c.args.home of measured.faultless measured.stands to
    (c.in_ok-syntax.ensures to.no_name (depth_left ms followed.home (type_term followed.of.now) c.args.depth _
    (omega (arith, c.if-depth-eq0.false)) (end_measured to.leads measured)))) c.syntax_of_named.ensures

pub unnamed-returns-in_ok-inner-in-Tagged : goal.unnamed-returns-in_ok-inner-in-Tagged
unnamed-returns-in_ok-inner-in-Tagged n c = IfOk-weaker c.tagged.result _ _ (λ left under no_name measured.
    let ms = module_terms c.args.self.now.numbers.now in
    let arm = c.in-Tagged in
    let inner = c.in_ok-inner-in-Tagged.inner in
    tag_built ms c.args.home c.args.depth _ (tag_term arm.tag.value) arm.mode (type_term arm.of.value) inner left
    (ap type_term arm.is)
    (subst (λ t. IsMeasured ms c.args.home (type_term t) c.args.depth → Denotes ms c.args.home (type_term t) inner)
    c.deref.ensures c.in_ok-inner-in-Tagged.ensures)
    (subst (λ t. (of : TypeTerm) → Denotes ms c.args.home of inner →
    ¬ ((own : SaidTag) → ¬ IsTag ms c.args.home (tag_term t) own) →
    Denotes ms c.args.home (Under (tag_term t) arm.mode of) left) c.deref-in-Tagged.ensures under) measured)
    c.tagged.ensures

pub unnamed-returns-in_ok-parts-in-Choice : goal.unnamed-returns-in_ok-parts-in-Choice
unnamed-returns-in_ok-parts-in-Choice n c = λ no_name.
    let ms = module_terms c.args.self.now.numbers.now in
    let arm = c.in-Choice in
    let parts = c.in_ok-parts-in-Choice.parts in
    choice_built ms c.args.home c.args.depth _ arm.word (map alternative_member arm.alternatives.items)
    (limit_terms arm.constraints) parts
    (ap type_term arm.is ∙ alternatives_are arm.word arm.alternatives arm.constraints)
    (subst (λ xs. AreMeasured ms c.args.home (map alternative_member xs) c.args.depth →
    MembersDenote ms c.args.home (members_listed (map alternative_member xs)) parts) c.as_slice.ensures.value
    c.in_ok-parts-in-Choice.ensures)

pub unnamed-returns-in_ok-form-in-Plain : goal.unnamed-returns-in_ok-form-in-Plain
unnamed-returns-in_ok-form-in-Plain n c = IfOk-weaker c.constrained.result _ _ (λ left narrows.
    let ms = module_terms c.args.self.now.numbers.now in
    let arm = c.in-Plain in
    let syntax = syntax_of c.in_ok-form-in-Plain.form in
    plain_built ms c.args.home (c.args.depth + 1) (type_term c.args.of.now) arm.plain (limit_terms arm.constraints)
    syntax
    left (ap type_term arm.is) (c.in_ok-form-in-Plain.ensures (limit_terms arm.constraints))
    (subst (λ xs. TakesLimits ms c.args.home (type_term c.args.of.now) (map limit_term xs) syntax →
    Constrains ms c.args.home (type_term c.args.of.now) (map limit_term xs) syntax left)
    c.as_slice-in-Plain.ensures.value narrows)) c.constrained.ensures
