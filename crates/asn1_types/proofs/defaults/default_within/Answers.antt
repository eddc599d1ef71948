-- The way along a path.
use Rattle.asn1_names.specs.TermViews.{module_terms, type_term}
use Rattle.asn1_types.proofs.SoughtLaws.{path_ends_at, path_goes_on, path_leads_nowhere}
use Rattle.asn1_types.proofs.defaults.default_within.Goals as goal

pub loop-step-preserved : goal.loop-step-preserved
loop-step-preserved c = λ whole.
    path_goes_on (module_terms c.args.numbers.now) c.args.home (type_term c.args.of.now) c.args.path.now c.loop-step.at
    (type_term c.loop-step.left.now) c.loop-step.rest.now c.loop-step._step c.in_ok-further.further
    c.in_ok-further.sought c.in-Within.inner c.in-Within.behind c.in-Within.is (c.loop-step.invariant whole)
    c.in_ok-further.ensures

pub returns-in-Text : goal.returns-in-Text
returns-in-Text c = λ whole.
    path_ends_at (module_terms c.args.numbers.now) c.args.home (type_term c.args.of.now) c.args.path.now c.loop-step.at
    (type_term c.loop-step.left.now) c.loop-step.rest.now c.loop-step._step c.in_ok-further.further
    c.in_ok-further.sought c.in-Text.text c.in-Text.is (c.loop-step.invariant whole) c.in_ok-further.ensures

pub returns-in-Nothing : goal.returns-in-Nothing
returns-in-Nothing c = λ whole.
    path_leads_nowhere (module_terms c.args.numbers.now) c.args.home (type_term c.args.of.now) c.args.path.now
    c.loop-step.at (type_term c.loop-step.left.now) c.loop-step.rest.now c.loop-step._step c.in_ok-further.further
    c.in_ok-further.sought c.in-Nothing.is (c.loop-step.invariant whole) c.in_ok-further.ensures
