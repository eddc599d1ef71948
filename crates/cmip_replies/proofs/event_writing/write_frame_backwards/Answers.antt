-- The parts in a row, the last one first.
use Rattle.std.proofs.Common.{rules, pos}
use Rattle.std.proofs.Math.Facts.{to_z-of_z}
use Rattle.std.specs.Prelude.{None}
use Rattle.term_model.specs.ApduWriting.{invoke_apdu}
use Rattle.term_model.specs.RemoteOperation.{integer}
use Rattle.ber_tree.proofs.Backwards.{before}
use Rattle.cmip_replies.specs.ReplyOctets.{argument_octets}
use Rattle.cmip_replies.proofs.event_writing.write_frame_backwards.Goals as goal

pub returns-clause-written : goal.returns-clause-written
returns-clause-written c =
    let own = rw (to_z-of_z c.ranges.own) at c.in_ok-write_integer_backwards-2.ensures.written in
    c.in_ok-close_frame.ensures.written c.args.into.now.items
    (invoke_apdu c.args.own None (pos 0) (argument_octets c.args.event.now)) (search rules)
    (c.in_ok-close_value.ensures.written c.args.into.now.items _ (search rules)
    (before c.args.into.now.items (integer c.args.own) _ own
    (before c.args.into.now.items (integer (pos 0)) _ c.in_ok-write_integer_backwards.ensures.written
    c.in_ok-write_argument.ensures.written)))
