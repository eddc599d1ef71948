-- A value in which no names may stand.
use Rattle.asn1_names.specs.ResolvedTypes.{HasSyntax}
use Rattle.asn1_values_syntax.specs.ValueTrees.{value_tree}
use Rattle.gdmo_names.specs.PartTerms.{module_terms_of}
use Rattle.gdmo_begun_names.specs.PartNames.{MayBeginValue}
use Rattle.begun_values.specs.MeantSyntaxes.{BeginsOf}
use Rattle.begun_values.proofs.ListedLaws.{none_may}
use Rattle.begun_values.proofs.MeantLaws.{of_may}
use Rattle.begun_values.proofs.stated_values.mark_typed.Goals as goal

pub returns-else-may_stand_in : goal.returns-else-may_stand_in
returns-else-may_stand_in c = λ parts meant link means.
    let text = value_tree c.args.value.now in
    let Of = HasSyntax (module_terms_of parts) meant in
    none_may (MayBeginValue text) (BeginsOf Of text) c.args.names.now c.may_stand_in.result c.may_stand_in.ensures
    c.if-may_stand_in.false (λ t h. of_may Of text t h)
