-- So it is of the types so far.
use Rattle.std.proofs.Common.{◌≡◌, ◌≤◌, ◌&&◌, insert, length, take}
use Rattle.term_values.specs.Typed.{listed}
use Rattle.fitting_members.specs.MemberTests.{all_members_fit}
use Rattle.fitting_members.proofs.permitting.stay_of_all.Given as goal

abbrev pub invariant-loop-syntax : goal.invariant-loop-syntax
invariant-loop-syntax l =
    l.at ≤ length l.items
    → all_members_fit (take l.syntax-index l.permitted) (listed (insert l.items l.at l.value))
    ≡ (l.fit && all_members_fit (take l.syntax-index l.permitted) (listed l.items))
