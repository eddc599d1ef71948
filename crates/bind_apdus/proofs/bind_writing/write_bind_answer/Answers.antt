-- The parts in a row, the last one first.
use Rattle.std.proofs.Common.{rules, ◌≡◌, false, pos, ◌++◌, reverse, w64}
use Rattle.std.proofs.Math.Facts.{to_z-of_z}
use Rattle.term_values.specs.Der.{encoded}
use Rattle.term_values.specs.Octets.{integer_contents}
use Rattle.term_values.specs.Tag.{universal}
use Rattle.term_model.specs.RemoteOperation.{integer}
use Rattle.ber_tree.proofs.Backwards.{before}
use Rattle.bind_apdus.proofs.bind_writing.write_bind_answer.Goals as goal

pub returns-clause-written : goal.returns-clause-written
returns-clause-written c =
    let code = rw (to_z-of_z {w = w64} {z = c.from.result} (search rules), c.from.ensures) at
    c.in_ok-write_integer_backwards-2.ensures.written in
    let number : c.write_integer_backwards.new.into.items ≡ c.args.into.now.items
    ++ reverse (integer (pos c.args.association)) = search rules in
    c.in_ok-close_value.ensures.written c.args.into.now.items _ (search rules)
    (before c.args.into.now.items (encoded false (universal 10) (integer_contents (pos c.args.code))) _ code
    number)
