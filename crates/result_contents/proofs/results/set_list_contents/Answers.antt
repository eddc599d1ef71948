-- The parts in a row, the last one first, are the one form of the value.
use Rattle.std.proofs.Common.{true, ◌∙◌}
use Rattle.std.specs.Prelude.{map}
use Rattle.term_values.specs.Der.{encoded}
use Rattle.term_values.specs.Rearranged.{joined, rising}
use Rattle.term_values.specs.Tag.{context}
use Rattle.term_values.specs.Written.{der}
use Rattle.term_values.specs.ResultSyntaxes.{set_error, outcome}
use Rattle.term_model.specs.ResultValues.{set_info_value}
use Rattle.result_contents.specs.ResultOctets.{told_octets}
use Rattle.result_contents.proofs.ResultForms.{turned_before}
use Rattle.result_contents.proofs.ResultForms.{set_list_written}
use Rattle.result_contents.proofs.results.set_list_contents.Goals as goal

pub returns : goal.returns
returns c =
    let told = told_octets c.args.class.now c.args.name.now c.args.time.now in
    let rest =
    encoded true (context 6)
    (joined (rising (map (λ status. der (outcome set_error) (set_info_value status)) c.args.statuses.now))) in
    turned_before told rest c.new-turned.ensures.items c.in_ok-write_set_info.ensures.written
    c.in_ok-write_told.ensures.written
    ∙ set_list_written c.args.class.now c.args.name.now c.args.time.now c.args.statuses.now
