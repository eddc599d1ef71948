use Rattle.std.proofs.Common.{◌-◌, drop}
use Rattle.value_match.specs.MemberKeys.{member_key}
use Rattle.value_match.specs.RisingMembers.{AreRising}
use Rattle.value_match.proofs.sets.are_rising.Given as goal

abbrev pub invariant-loop-next : goal.invariant-loop-next
invariant-loop-next l =
    AreRising (member_key l.syntax) (drop (l.next - 1) l.members) → AreRising (member_key l.syntax) l.members
