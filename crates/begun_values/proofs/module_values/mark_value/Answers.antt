-- A value in which no names may stand.
use Rattle.asn1_names.specs.DenotedSyntax.{Denotes}
use Rattle.asn1_names.specs.TermViews.{type_term}
use Rattle.asn1_values_syntax.specs.ValueTrees.{value_tree}
use Rattle.gdmo_begun_names.specs.PartNames.{MayBeginValue}
use Rattle.begun_values.specs.MeantSyntaxes.{BeginsOf}
use Rattle.begun_values.proofs.ListedLaws.{none_may}
use Rattle.begun_values.proofs.MeantLaws.{of_may}
use Rattle.begun_values.proofs.module_values.mark_value.Goals as goal

pub returns-else-may_stand_in-clause-marked : goal.returns-else-may_stand_in-clause-marked
returns-else-may_stand_in-clause-marked c = λ ms are last x.
    let text = value_tree c.args.value.now in
    let Of = Denotes ms c.args.home (type_term c.args.of.now) in
    none_may (MayBeginValue text) (BeginsOf Of text) c.args.names.now c.may_stand_in.result c.may_stand_in.ensures
    c.if-may_stand_in.false (λ t h. of_may Of text t h)
