-- The text of DEFAULT in a type, and in a value's type.
use Rattle.std.proofs.Math.Path.{subst}
use Rattle.std.proofs.lemmas.Result.{IfOk-weaker}
use Rattle.asn1_names.specs.CodeMeanings.{Means}
use Rattle.asn1_names.specs.TermViews.{module_terms}
use Rattle.asn1_types.proofs.SoughtLaws.{type_default, value_default}
use Rattle.asn1_types.proofs.types.Types.default_text.Goals as goal

pub returns-in-TypeAt : goal.returns-in-TypeAt
returns-in-TypeAt c = IfOk-weaker c.default_at.result _ _ (λ told at meant means.
    type_default (module_terms c.args.self.now) c.in-TypeAt.number meant c.args.path.now told
    (subst (λ m. Means (module_terms c.args.self.now) m meant) c.in-TypeAt.is means) at) c.default_at.ensures

pub returns-in-ValueAt : goal.returns-in-ValueAt
returns-in-ValueAt c = IfOk-weaker c.default_at-in-ValueAt.result _ _ (λ told at meant means.
    value_default (module_terms c.args.self.now) c.in-ValueAt.number meant c.args.path.now told
    (subst (λ m. Means (module_terms c.args.self.now) m meant) c.in-ValueAt.is means) at)
    c.default_at-in-ValueAt.ensures
