-- The frame turned round.
use Rattle.std.proofs.Common.{rules, ◌≡◌, ◌++◌, pos, reverse}
use Rattle.std.proofs.Math.Facts.{to_z-of_z}
use Rattle.std.specs.Prelude.{None}
use Rattle.term_model.specs.ApduWriting.{invoke_apdu}
use Rattle.term_model.specs.RemoteOperation.{frame}
use Rattle.ber_tree.proofs.Backwards.{turned_behind}
use Rattle.cmip_replies.specs.ReplyOctets.{argument_octets}
use Rattle.cmip_replies.proofs.event_writing.write_turned.Goals as goal

pub returns-in-Ok-clause-written : goal.returns-in-Ok-clause-written
returns-in-Ok-clause-written c =
    let octets = frame (invoke_apdu c.args.own None (pos 0) (argument_octets c.args.event.now)) in
    let backwards : c.write_frame_backwards.new.into.items ≡ c.args.into.now.items ++ reverse octets =
    rw (to_z-of_z c.ranges.own) at c.in-Ok.ensures.written in
    turned_behind c.args.into.now.items octets (search rules) backwards c.reverse_from.ensures
