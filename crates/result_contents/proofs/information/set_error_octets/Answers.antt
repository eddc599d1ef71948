-- What was written is turned round.
use Rattle.std.proofs.Common.{◌++◌, false, true, reverse, ap, ◌∙◌}
use Rattle.std.proofs.Math.Facts.{to_z-of_z}
use Rattle.term_values.specs.CmipTypes.{attribute_id}
use Rattle.term_values.specs.Der.{encoded}
use Rattle.term_values.specs.Octets.{integer_contents}
use Rattle.term_values.specs.Tag.{context, universal}
use Rattle.term_values.specs.Written.{der}
use Rattle.term_model.specs.ResultValues.{id_value}
use Rattle.ber_tree.proofs.Backwards.{turned}
use Rattle.result_contents.proofs.information.set_error_octets.Goals as goal

pub returns : goal.returns
returns c =
    let octets =
    encoded true (context 0)
    (encoded false (universal 10) (integer_contents c.args.status)
    ++ (encoded false (context 2) (integer_contents c.args.operator) ++ der attribute_id (id_value c.args.id.now))) in
    let error =
    rw (to_z-of_z c.ranges.status, to_z-of_z c.ranges.operator) at c.in_ok-write_set_error.ensures.written in
    turned octets c.reverse_from.ensures
    (error ∙ ap (λ xs. xs ++ reverse octets) c.new-items.ensures.items)
