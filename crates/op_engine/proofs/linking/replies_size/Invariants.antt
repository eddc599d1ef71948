-- The octets of the replies from here on.
use Rattle.std.proofs.Common.{◌≡◌, drop}
use Rattle.term_values.specs.Lengths.{counted}
use Rattle.operation_model.specs.LinkedReplies.{replies_size}
use Rattle.op_engine.proofs.linking.replies_size.Given as goal

abbrev pub invariant-loop-i : goal.invariant-loop-i
invariant-loop-i l = l.size ≡ counted (replies_size (drop l.i l.replies))
