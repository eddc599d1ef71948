use Rattle.std.proofs.Common.{◌≡◌, ◌++◌}
use Rattle.ber_values.specs.MemberOrder.{beside}
use Rattle.term_values.specs.Typed.{listed}
use Rattle.term_values.specs.Written.{der}
use Rattle.ber_values.proofs.member_order.beside.Given as goal

abbrev pub invariant-loop-value : goal.invariant-loop-value
invariant-loop-value l =
    (l.yielded ++ l.value-iterator.rest.items ≡ l.initial.value-iterator.rest.items)
    × (l.found.items ≡ beside (der l.member) (listed l.yielded))
