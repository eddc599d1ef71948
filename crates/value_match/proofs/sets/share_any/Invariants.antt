use Rattle.std.proofs.Common.{drop}
use Rattle.term_values.specs.Typed.{listed}
use Rattle.term_values.specs.Matching.{HaveCommon}
use Rattle.value_match.proofs.sets.share_any.Given as goal

abbrev pub invariant-loop-member : goal.invariant-loop-member
invariant-loop-member l =
    HaveCommon (listed l.asserted) (listed l.held)
    → HaveCommon (listed (drop l.member-index l.asserted)) (listed l.held)
