use Rattle.std.proofs.Common.{◌≡◌, ◌++◌}
use Rattle.ber_values.specs.MemberOrder.{members_of}
use Rattle.term_values.specs.Typed.{listed}
use Rattle.ber_values.proofs.member_order.members_of.Given as goal

abbrev pub invariant-loop-member : goal.invariant-loop-member
invariant-loop-member l =
    (l.yielded ++ l.member-iterator.rest.items ≡ l.fn.members.items) × (listed l.items.items ≡ members_of l.yielded)
