-- The frames of the replies so far, and those of the others, are all.
use Rattle.std.proofs.Common.{◌≡◌, ◌++◌, drop}
use Rattle.term_model.specs.Operation.{replied}
use Rattle.agent_steps.proofs.performing.frames_of.Given as goal

abbrev pub invariant-loop-reply : goal.invariant-loop-reply
invariant-loop-reply l = record {
  octets : (replied l.invoke l.operation l.own l.replies).octets ≡ l.octets.items
      ++ (replied l.invoke l.operation l.next (drop l.reply-index l.replies)).octets;
  own : (replied l.invoke l.operation l.own l.replies).own
      ≡ (replied l.invoke l.operation l.next (drop l.reply-index l.replies)).own;
}
