-- The linked replies so far.
use Rattle.std.proofs.Common.{◌≡◌, ◌++◌, map}
use Rattle.operation_model.specs.LinkedReplies.{linked_reply}
use Rattle.op_engine.proofs.planning.linked_replies.Given as goal

abbrev pub invariant-loop-answer : goal.invariant-loop-answer
invariant-loop-answer l =
    (l.yielded ++ l.answer-iterator.rest.items ≡ l.initial.answer-iterator.rest.items)
    × (l.linked.items ≡ map (linked_reply l.number) l.yielded)
