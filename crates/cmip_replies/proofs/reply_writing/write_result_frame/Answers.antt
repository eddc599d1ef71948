-- The parts in a row, the last one first.
use Rattle.std.proofs.Common.{rules}
use Rattle.std.proofs.Math.Facts.{to_z-of_z}
use Rattle.term_model.specs.RemoteOperation.{result_apdu, integer}
use Rattle.ber_tree.proofs.Backwards.{before}
use Rattle.cmip_replies.proofs.reply_writing.write_result_frame.Goals as goal

pub returns-clause-written : goal.returns-clause-written
returns-clause-written c =
    let id = rw (to_z-of_z c.ranges.id) at c.in_ok-write_integer_backwards.ensures.written in
    let result = rw (to_z-of_z c.ranges.op) at c.in_ok-write_result.ensures.written in
    c.in_ok-close_frame.ensures.written c.args.into.now.items
    (result_apdu c.args.id c.args.op c.args.value.now) (search rules)
    (c.in_ok-close_value.ensures.written c.args.into.now.items _ (search rules)
    (before c.args.into.now.items (integer c.args.id) _ id result))
