-- The parts in a row, the last one first.
use Rattle.std.proofs.Common.{rules}
use Rattle.std.proofs.Math.Facts.{to_z-of_z}
use Rattle.term_model.specs.RemoteOperation.{integer}
use Rattle.ber_tree.proofs.Backwards.{before}
use Rattle.cmip_replies.proofs.reply_writing.write_result.Goals as goal

pub returns-clause-written : goal.returns-clause-written
returns-clause-written c =
    let operation = rw (to_z-of_z c.ranges.op) at c.in_ok-write_integer_backwards.ensures.written in
    c.in_ok-close_value.ensures.written c.args.into.now.items _ (search rules)
    (before c.args.into.now.items (integer c.args.op) _ operation c.in_ok-write_backwards.ensures.written)
