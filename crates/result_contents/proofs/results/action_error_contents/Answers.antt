-- The parts in a row, the last one first, are the one form of the value.
use Rattle.std.proofs.Common.{◌++◌, false, true, ◌∙◌}
use Rattle.std.proofs.Math.Facts.{to_z-of_z}
use Rattle.term_values.specs.CmipTypes.{action_type_id}
use Rattle.term_values.specs.Der.{encoded}
use Rattle.term_values.specs.Octets.{integer_contents}
use Rattle.term_values.specs.Tag.{context, universal}
use Rattle.term_values.specs.Written.{der}
use Rattle.term_model.specs.ResultValues.{id_value}
use Rattle.result_contents.specs.ResultOctets.{told_octets}
use Rattle.result_contents.proofs.ResultForms.{turned_before}
use Rattle.result_contents.proofs.FailureForms.{action_error_written}
use Rattle.result_contents.proofs.results.action_error_contents.Goals as goal

pub returns : goal.returns
returns c =
    let told = told_octets c.args.class.now c.args.name.now c.args.time.now in
    let rest =
    encoded true (context 6)
    (encoded true (universal 16)
    (encoded false (universal 10) (integer_contents c.args.status)
    ++ der action_type_id (id_value c.args.action.now))) in
    let list = rw (to_z-of_z c.ranges.status) at c.in_ok-write_action_error.ensures.written in
    turned_before told rest c.new-turned.ensures.items list c.in_ok-write_told.ensures.written
    ∙ action_error_written c.args.class.now c.args.name.now c.args.time.now c.args.status c.args.action.now
