-- The text of a value.
use Rattle.std.proofs.Math.Path.{subst}
use Rattle.asn1_names.specs.CodeMeanings.{Means}
use Rattle.asn1_names.specs.TermViews.{module_terms}
use Rattle.asn1_types.proofs.TypesLaws.{text_told}
use Rattle.asn1_types.proofs.types.Types.value_text.Goals as goal

pub returns-in-Some : goal.returns-in-Some
returns-in-Some c = λ meant means.
    text_told c.tables.result.now _ c.args.self.now c.in-ValueAt.number _ c.in-Some.assignment.now meant
    c.value_of.result
    c.tables.ensures c.self.view_is c.in-Some.ensures c.value_of.ensures
    (subst (λ m. Means (module_terms c.args.self.now) m meant) c.in-ValueAt.is means)
