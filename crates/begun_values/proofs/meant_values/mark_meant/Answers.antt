-- By the syntax that is told of what is meant.
use Rattle.asn1_names.specs.TermViews.{module_terms}
use Rattle.asn1_values_syntax.specs.ValueTrees.{value_tree}
use Rattle.begun_values.proofs.MeantLaws.{meant_marked}
use Rattle.begun_values.proofs.meant_values.mark_meant.Goals as goal

pub returns : goal.returns
returns c = λ meant means.
    meant_marked (module_terms c.args.types.now) meant c.in_ok-syntax.syntax (value_tree c.args.value.now)
    (c.in_ok-syntax.ensures meant means) c.mark_maybe.ensures
