-- The contents under their header.
use Rattle.std.proofs.Common.{rules, ◌++◌, false}
use Rattle.std.proofs.Math.Facts.{to_z-of_z}
use Rattle.term_values.specs.CmipTypes.{attribute_id}
use Rattle.term_values.specs.Der.{encoded}
use Rattle.term_values.specs.Octets.{integer_contents}
use Rattle.term_values.specs.Tag.{context, universal}
use Rattle.term_values.specs.Written.{der}
use Rattle.term_model.specs.ResultValues.{id_value}
use Rattle.result_contents.proofs.information.write_set_error.Goals as goal

pub returns-clause-written : goal.returns-clause-written
returns-clause-written c =
    let contents =
    rw (to_z-of_z c.ranges.status, to_z-of_z c.ranges.operator) at c.in_ok-write_set_contents.ensures.written in
    c.in_ok-close.ensures.written c.args.into.now.items
    (encoded false (universal 10) (integer_contents c.args.status)
    ++ (encoded false (context 2) (integer_contents c.args.operator) ++ der attribute_id (id_value c.args.id.now)))
    (search rules) contents
