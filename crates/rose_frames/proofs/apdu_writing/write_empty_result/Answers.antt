-- The parts in a row, the last one first.
use Rattle.std.proofs.Common.{rules, w64}
use Rattle.std.proofs.Math.Facts.{to_z-of_z}
use Rattle.rose_frames.proofs.apdu_writing.write_empty_result.Goals as goal

pub returns-clause-written : goal.returns-clause-written
returns-clause-written c =
    let id = rw (to_z-of_z {w = w64} {z = c.from.result} (search rules), c.from.ensures, to_z-of_z c.ranges.id) at
    c.in_ok-write_integer_backwards.ensures.written in
    c.in_ok-close_value.ensures.written c.args.into.now.items _ (search rules) id
