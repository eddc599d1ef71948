-- The parts in a row, the last one first.
use Rattle.std.proofs.Common.{rules, ◌≡◌, false, pos}
use Rattle.std.proofs.Math.Facts.{to_z-of_z}
use Rattle.term_values.specs.Der.{encoded}
use Rattle.term_values.specs.Octets.{integer_contents}
use Rattle.term_values.specs.Tag.{context}
use Rattle.term_model.specs.RemoteOperation.{linked_apdu, integer}
use Rattle.ber_tree.proofs.Backwards.{before}
use Rattle.cmip_replies.proofs.reply_writing.write_linked_frame.Goals as goal

pub returns-clause-written : goal.returns-clause-written
returns-clause-written c =
    let id = rw (to_z-of_z c.ranges.id) at c.in_ok-write_integer_backwards-2.ensures.written in
    let tag : c.context.result ≡ context c.args.number = search rules in
    let reply = rw tag at c.in_ok-write_value_backwards.ensures.written in
    let own = rw (to_z-of_z c.ranges.own) at c.in_ok-write_integer_backwards-3.ensures.written in
    c.in_ok-close_frame.ensures.written c.args.into.now.items
    (linked_apdu c.args.own c.args.id c.args.number c.args.reply.now) (search rules)
    (c.in_ok-close_value.ensures.written c.args.into.now.items _ (search rules)
    (before c.args.into.now.items (integer c.args.own) _ own
    (before c.args.into.now.items (encoded false (context 0) (integer_contents c.args.id)) _ id
    (before c.args.into.now.items (integer (pos 2)) _ c.in_ok-write_integer_backwards.ensures.written reply))))
