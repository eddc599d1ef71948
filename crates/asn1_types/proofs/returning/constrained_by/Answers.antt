-- The names, from the last one on.
use Rattle.asn1_names.specs.TermViews.{module_terms}
use Rattle.asn1_types.proofs.ReturningLaws.{return_begins, return_ends, return_step}
use Rattle.asn1_types.proofs.returning.constrained_by.Goals as goal

pub loop-behind-init : goal.loop-behind-init
loop-behind-init c = λ path are all.
    return_begins (module_terms c.args.numbers.now) c.args.passed.now c.args.syntax path are

pub loop-behind-preserved : goal.loop-behind-preserved
loop-behind-preserved c =
    return_step (module_terms c.args.numbers.now) c.args.passed.now c.loop-behind.behind c.index-passed-passed.result
    c.args.syntax c.loop-behind.left _ c.loop-behind-test.true c.index-passed-passed.is c.in_ok-left.ensures
    c.loop-behind.invariant

pub returns : goal.returns
returns c =
    return_ends (module_terms c.args.numbers.now) c.args.passed.now c.loop-behind.behind c.args.syntax
    c.loop-behind.left c.loop-behind-test.false c.loop-behind.invariant
