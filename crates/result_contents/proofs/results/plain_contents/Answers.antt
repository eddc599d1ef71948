-- The parts in a row, the last one first, are the one form of the value.
use Rattle.std.proofs.Common.{◌∙◌}
use Rattle.result_contents.proofs.ResultForms.{turned_alone, plain_written}
use Rattle.result_contents.proofs.results.plain_contents.Goals as goal

pub returns : goal.returns
returns c =
    turned_alone _ c.new-turned.ensures.items c.in_ok-write_told.ensures.written
    ∙ plain_written c.args.class.now c.args.name.now c.args.time.now
