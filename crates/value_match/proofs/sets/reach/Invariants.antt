use Rattle.std.proofs.Common.{◌≡◌, ◌≤◌, drop, length, take}
use Rattle.value_match.specs.FirstSizes.{front_size}
use Rattle.value_match.specs.MemberKeys.{member_key}
use Rattle.value_match.specs.RisingMembers.{AllBefore}
use Rattle.value_match.proofs.sets.reach.Given as goal

abbrev pub invariant-loop-at : goal.invariant-loop-at
invariant-loop-at l =
    record {
      front : AllBefore (member_key l.syntax) (take l.at l.held) (member_key l.syntax l.value);
      within : l.at ≤ length l.held;
      measured : l.held_size ≡ front_size l.syntax (drop l.at l.held);
    }
