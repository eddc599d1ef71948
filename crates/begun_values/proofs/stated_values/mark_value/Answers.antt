-- What is meant.
use Rattle.std.proofs.Common.{◌≡◌, sym}
use Rattle.std.proofs.Math.Path.{subst}
use Rattle.std.specs.Prelude.{MatchOption}
use Rattle.asn1_names.specs.CodeMeanings.{Means}
use Rattle.asn1_names.specs.NameMeaning.{Meaning}
use Rattle.asn1_names.specs.ResolvedTypes.{HasSyntax}
use Rattle.asn1_values_syntax.specs.ValueTrees.{value_tree}
use Rattle.gdmo_names.specs.PartTerms.{module_terms_of}
use Rattle.gdmo_types.proofs.FieldLaws.{on_ok_by}
use Rattle.gdmo_begun_names.specs.BegunMarks.{Marks}
use Rattle.begun_values.specs.MeantSyntaxes.{BeginsOf}
use Rattle.begun_values.proofs.stated_values.mark_value.Goals as goal

pub returns-in-Some : goal.returns-in-Some
returns-in-Some c = on_ok_by c.mark_typed.result (λ marked parts link.
    let ms = module_terms_of parts in
    let old = c.args.names.now in
    let new = c.mark_typed.new.names in
    subst (λ o. MatchOption o (new ≡ old) (λ code. (meant : Meaning) → Means ms code meant →
    Marks (BeginsOf (HasSyntax ms meant) (value_tree c.args.value.now)) old new)) (sym c.in-Some.is)
    (λ meant means. marked parts meant link means)) c.mark_typed.ensures
