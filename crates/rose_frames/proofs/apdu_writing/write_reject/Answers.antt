-- The parts in a row, the last one first.
use Rattle.std.proofs.Common.{rules, ◌≡◌}
use Rattle.std.proofs.Math.Facts.{to_z-of_z}
use Rattle.term_values.specs.Tag.{context}
use Rattle.term_model.specs.RemoteOperation.{rejected_id}
use Rattle.ber_tree.proofs.Backwards.{before}
use Rattle.rose_frames.proofs.apdu_writing.write_reject.Goals as goal

pub returns-clause-written : goal.returns-clause-written
returns-clause-written c =
    let tag : c.context.result ≡ context c.args.class = search rules in
    let problem = rw (tag, to_z-of_z c.ranges.problem) at c.in_ok-write_integer_backwards.ensures.written in
    c.in_ok-close_value.ensures.written c.args.into.now.items _ (search rules)
    (before c.args.into.now.items (rejected_id c.args.id) _ c.in_ok-write_rejected.ensures.written problem)
