-- A constraint that has its place.
use Rattle.asn1_names.specs.TermViews.{limit_term, type_term}
use Rattle.asn1_resolve.proofs.ConstraintLaws.{place_there}
use Rattle.asn1_resolve.proofs.FirstFaults.{one_not}
use Rattle.asn1_resolve.proofs.constraint_faults.judge_place.Goals as goal

pub returns-then-has_place : goal.returns-then-has_place
returns-then-has_place c = λ ms finds.
    one_not (place_there ms c.args.home.module (type_term c.args.of.now) c.args.base.now
    (limit_term c.args.constraint.now) c.has_place.result finds c.if-has_place.true c.has_place.ensures)
