-- SEQUENCE, SET, SEQUENCE OF and SET OF.
use Rattle.std.proofs.Common.{◌∙◌, ap, map, sym}
use Rattle.std.proofs.Math.Path.{subst}
use Rattle.asn1_syntax.specs.declared.type_text.StructureText.TheVariants.{Components}
use Rattle.asn1_names.specs.ModuleTerms.TypeTerm.{Structure}
use Rattle.asn1_names.specs.TermViews.{limit_terms, structure_term, type_term}
use Rattle.asn1_types.specs.BuiltSyntaxes.{component_member}
use Rattle.asn1_types.specs.MeasuredTypes.{members_listed}
use Rattle.asn1_types.specs.SoughtDefaults.{TellsSought}
use Rattle.asn1_types.proofs.BuildingLaws.{components_are}
use Rattle.asn1_types.proofs.DefaultLaws.{element_within, within_told}
use Rattle.asn1_types.proofs.defaults.in_structure.Goals as goal

pub returns-in-Some : goal.returns-in-Some
returns-in-Some c = λ ms m word.
    let arm = c.in-Components in
    let limits = limit_terms arm.constraints in
    subst (λ t. TellsSought ms m t c.args.path.now m c.in_components.result)
    (sym (ap (structure_term word) (arm.is ∙ ap (λ x. Components x arm.constraints) c.in-Some.is) ∙
    components_are word c.in-Some.components arm.constraints))
    (subst (λ xs. TellsSought ms m (Structure word (members_listed (map component_member xs)) limits) c.args.path.now m
    c.in_components.result) c.as_slice.ensures.value (c.in_components.ensures ms m word limits))

pub returns-in-ListOf : goal.returns-in-ListOf
returns-in-ListOf c = λ ms m word.
    within_told ms m (structure_term word c.args.content.now) _ (type_term c.deref.result.now)
    (type_term c.in-ListOf.inner.value) c.args.path.now (ap (structure_term word) c.in-ListOf.is)
    (ap type_term c.deref.ensures) (element_within c.args.path.now)
