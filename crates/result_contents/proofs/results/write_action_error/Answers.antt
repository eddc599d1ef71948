-- The contents under their header.
use Rattle.std.proofs.Common.{rules, ◌++◌, false, true}
use Rattle.std.proofs.Math.Facts.{to_z-of_z}
use Rattle.term_values.specs.CmipTypes.{action_type_id}
use Rattle.term_values.specs.Der.{encoded}
use Rattle.term_values.specs.Octets.{integer_contents}
use Rattle.term_values.specs.Tag.{universal}
use Rattle.term_values.specs.Written.{der}
use Rattle.term_model.specs.ResultValues.{id_value}
use Rattle.result_contents.proofs.results.write_action_error.Goals as goal

pub returns-clause-written : goal.returns-clause-written
returns-clause-written c =
    let contents = rw (to_z-of_z c.ranges.status) at c.in_ok-write_action_status.ensures.written in
    c.in_ok-close.ensures.written c.args.into.now.items
    (encoded true (universal 16)
    (encoded false (universal 10) (integer_contents c.args.status) ++ der action_type_id (id_value c.args.action.now)))
    (search rules) contents
