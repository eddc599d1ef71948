use Rattle.std.proofs.Common.{◌≡◌, ◌≤◌, length, drop}
use Rattle.term_values.specs.Typed.{listed}
use Rattle.term_values.specs.Matching.{HaveCommon}
use Rattle.value_match.specs.FirstSizes.{front_size}
use Rattle.value_match.specs.MemberKeys.{member_key}
use Rattle.value_match.specs.RisingMembers.{FrontBefore}
use Rattle.value_match.proofs.sets.share_rising.Given as goal

abbrev pub invariant-loop-member : goal.invariant-loop-member
invariant-loop-member l =
    record {
      common : HaveCommon (listed l.asserted) (listed l.held)
          → HaveCommon (listed (drop l.member-index l.asserted)) (listed l.held);
      front : FrontBefore (member_key l.syntax) l.held l.from (drop l.member-index l.asserted);
      within : l.from ≤ length l.held;
      measured : l.size ≡ front_size l.syntax (drop l.from l.held);
    }
