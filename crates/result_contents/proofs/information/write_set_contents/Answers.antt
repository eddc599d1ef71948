-- The parts in a row, the last one first.
use Rattle.std.proofs.Common.{◌++◌, false}
use Rattle.std.proofs.Math.Facts.{to_z-of_z}
use Rattle.term_values.specs.CmipTypes.{attribute_id}
use Rattle.term_values.specs.Der.{encoded}
use Rattle.term_values.specs.Octets.{integer_contents}
use Rattle.term_values.specs.Tag.{context, universal}
use Rattle.term_values.specs.Written.{der}
use Rattle.term_model.specs.ResultValues.{id_value}
use Rattle.ber_tree.proofs.Backwards.{before}
use Rattle.result_contents.proofs.information.write_set_contents.Goals as goal

pub returns-clause-written : goal.returns-clause-written
returns-clause-written c =
    let status = rw (to_z-of_z c.ranges.status) at c.in_ok-write_integer_backwards.ensures.written in
    let modified = rw (to_z-of_z c.ranges.operator) at c.in_ok-write_modified.ensures.written in
    before c.args.into.now.items (encoded false (universal 10) (integer_contents c.args.status))
    (encoded false (context 2) (integer_contents c.args.operator) ++ der attribute_id (id_value c.args.id.now))
    status modified
