-- The syntax of a type, and of a value's type.
use Rattle.std.proofs.Math.Path.{subst}
use Rattle.std.proofs.lemmas.Result.{IfOk-weaker}
use Rattle.asn1_names.specs.CodeMeanings.{Means}
use Rattle.asn1_names.specs.TermViews.{module_terms}
use Rattle.asn1_types.proofs.TypesLaws.{standard_told, type_syntax, value_syntax}
use Rattle.asn1_types.proofs.types.Types.syntax.Goals as goal

pub returns-in-TypeAt : goal.returns-in-TypeAt
returns-in-TypeAt c = IfOk-weaker c.syntax_at.result _ _ (λ told at meant means.
    type_syntax (module_terms c.args.self.now) c.in-TypeAt.number meant told
    (subst (λ m. Means (module_terms c.args.self.now) m meant) c.in-TypeAt.is means) at) c.syntax_at.ensures

pub returns-in-ValueAt : goal.returns-in-ValueAt
returns-in-ValueAt c = IfOk-weaker c.syntax_at-in-ValueAt.result _ _ (λ told at meant means.
    value_syntax (module_terms c.args.self.now) c.in-ValueAt.number meant told
    (subst (λ m. Means (module_terms c.args.self.now) m meant) c.in-ValueAt.is means) at) c.syntax_at-in-ValueAt.ensures

pub returns-in_ok-standard_syntax-in-Standard : goal.returns-in_ok-standard_syntax-in-Standard
returns-in_ok-standard_syntax-in-Standard c = λ meant means.
    standard_told (module_terms c.args.self.now) c.in-Standard.standard meant _
    (subst (λ m. Means (module_terms c.args.self.now) m meant) c.in-Standard.is means)
    c.in_ok-standard_syntax-in-Standard.ensures
