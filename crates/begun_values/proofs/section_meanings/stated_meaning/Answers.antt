-- The type of the name that is stated.
use Rattle.std.proofs.Common.{option_map, sym}
use Rattle.std.proofs.Math.Path.{subst}
use Rattle.asn1_names.specs.TermViews.{module_terms}
use Rattle.begun_values.specs.MeantSyntaxes.{MayMean}
use Rattle.begun_values.specs.SectionValues.{StatedSyntax}
use Rattle.begun_values.proofs.StatedLaws.{named_may}
use Rattle.begun_values.proofs.section_meanings.stated_meaning.Goals as goal

pub returns-in-Some : goal.returns-in-Some
returns-in-Some c =
    let ms = module_terms c.args.types.now in
    subst (λ o. MayMean ms (StatedSyntax ms (option_map (λ one. one.now) o)) c.type_meaning.result) (sym c.in-Some.is)
    (named_may ms c.in-Some.name.now c.type_meaning.result c.type_meaning.ensures)
