-- Components that stand there.
use Rattle.std.proofs.Common.{◌∙◌, ap, map, sym}
use Rattle.asn1_syntax.specs.declared.type_text.StructureText.TheVariants.{Components}
use Rattle.asn1_names.specs.TermViews.{structure_term}
use Rattle.asn1_types.proofs.BuildingLaws.{components_are}
use Rattle.asn1_types.specs.BuiltSyntaxes.{component_member}
use Rattle.asn1_types.specs.MeasuredTypes.{members_listed}
use Rattle.type_numbers.specs.PlacedTerms.{are_components, members_of}
use Rattle.type_numbers.proofs.type_texts.components_of.Goals as goal

pub returns-in-Some : goal.returns-in-Some
returns-in-Some c = λ word.
    let arm = c.in-Components in
    let same = ap (structure_term word) (arm.is ∙ ap (λ x. Components x arm.constraints) c.in-Some.is) ∙
    components_are word c.in-Some.components arm.constraints in (
      ap are_components same,
      ap members_of same ∙ ap (λ xs. members_listed (map component_member xs)) (sym c.as_slice.ensures.value),
    )
