-- By the syntax that is kept.
use Rattle.asn1_names.specs.TermViews.{module_terms}
use Rattle.asn1_values_syntax.specs.ValueTrees.{value_tree}
use Rattle.begun_values.proofs.ModuleLaws.{kept_marked}
use Rattle.begun_values.proofs.module_values.mark_named.Goals as goal

pub returns-clause-marked : goal.returns-clause-marked
returns-clause-marked c = λ m of last name.
    kept_marked (module_terms c.args.modules.now.types.now) m of c.args.target c.keep_syntax.new.last
    (value_tree c.args.value.now) (c.in_ok-keep_syntax.ensures.kept last) c.in_ok-keep_syntax.ensures.asked name
    c.mark_maybe.ensures
