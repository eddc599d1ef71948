-- The names back to the first one.
use Rattle.std.proofs.Common.{List}
use Rattle.std.proofs.Math.Path.{subst}
use Rattle.std.proofs.lemmas.Result.{IfOk-weaker}
use Rattle.asn1_names.specs.PassedNames.{Passed, Returns}
use Rattle.asn1_names.specs.TermViews.{module_terms}
use Rattle.asn1_types.specs.BuiltSyntaxes.{AllTakeLimits}
use Rattle.asn1_types.specs.FollowedNames.{AreKept}
use Rattle.asn1_types.proofs.ReturningLaws.{named_denoted}
use Rattle.asn1_types.proofs.returning.syntax_of_named.Goals as goal

pub returns : goal.returns
returns c = IfOk-weaker c.constrained_by.result _ _ (λ left back document home of sound stands to denotes.
    let ms = module_terms c.args.numbers.now in
    named_denoted document c.args.followed.now c.args.syntax left sound stands to denotes
    (subst (λ kept. (path : List Passed) → AreKept kept path → AllTakeLimits ms path c.args.syntax →
    Returns ms path c.args.syntax left) c.as_slice.ensures.value back)) c.constrained_by.ensures
