use Rattle.asn1_names.specs.TermViews.{module_terms, type_term}
use Rattle.asn1_types.proofs.FollowLaws.{IsOnWay}
use Rattle.asn1_types.proofs.following.follow.Given as goal

abbrev pub invariant-loop-step : goal.invariant-loop-step
invariant-loop-step l = IsOnWay (module_terms l.numbers) l.home (type_term l.of) l.passed.items l._step l.at
    (type_term l.left)
