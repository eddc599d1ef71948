-- A value of a type that is a name without constraints, and one of another type.
use Rattle.asn1_names.specs.TermViews.{module_terms, type_term}
use Rattle.asn1_values_syntax.specs.ValueTrees.{value_tree}
use Rattle.gdmo_types.proofs.FieldLaws.{on_ok_by}
use Rattle.begun_values.proofs.ModuleLaws.{named_standing, value_standing}
use Rattle.begun_values.proofs.module_values.mark_standing.Goals as goal

pub returns-in-Some-clause-marked : goal.returns-in-Some-clause-marked
returns-in-Some-clause-marked c = on_ok_by c.mark_named.result (λ marked ms are last x.
    named_standing ms (module_terms c.args.modules.now.types.now) (module_terms c.args.modules.now.tables.now)
    c.args.home (type_term c.args.of.now) c.in-Some.target c.args.last.now (value_tree c.args.value.now) are.of_types
    are.of_tables c.in-Some.ensures last marked) c.mark_named.ensures.marked

pub returns-in-None-clause-marked : goal.returns-in-None-clause-marked
returns-in-None-clause-marked c = on_ok_by c.mark_meant.result (λ marked ms are last x.
    value_standing ms (module_terms c.args.modules.now.types.now) c.args.number c.args.home (type_term c.args.of.now)
    (value_tree c.args.value.now) are.of_types x marked) c.mark_meant.ensures
