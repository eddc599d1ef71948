-- The parts in a row, the last one first.
use Rattle.std.proofs.Common.{rules, w64}
use Rattle.std.proofs.Math.Facts.{to_z-of_z}
use Rattle.term_model.specs.RemoteOperation.{integer}
use Rattle.ber_tree.proofs.Backwards.{before}
use Rattle.rose_frames.proofs.apdu_writing.write_error.Goals as goal

pub returns-clause-written : goal.returns-clause-written
returns-clause-written c =
    let id = rw (to_z-of_z {w = w64} {z = c.from.result} (search rules), c.from.ensures, to_z-of_z c.ranges.id) at
    c.in_ok-write_integer_backwards-2.ensures.written in
    let error = rw (to_z-of_z c.ranges.error) at c.in_ok-write_integer_backwards.ensures.written in
    c.in_ok-close_value.ensures.written c.args.into.now.items _ (search rules)
    (before c.args.into.now.items (integer c.args.id) _ id
    (before c.args.into.now.items (integer c.args.error) _ error c.in_ok-write_any.ensures.written))
