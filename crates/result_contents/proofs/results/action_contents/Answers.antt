-- The parts in a row, the last one first, are the one form of the value.
use Rattle.std.proofs.Common.{◌∙◌}
use Rattle.result_contents.specs.ResultOctets.{reply_octets}
use Rattle.result_contents.specs.ResultOctets.{told_octets}
use Rattle.result_contents.proofs.ResultForms.{turned_before}
use Rattle.result_contents.proofs.ResultForms.{action_written}
use Rattle.result_contents.proofs.results.action_contents.Goals as goal

pub returns : goal.returns
returns c =
    let told = told_octets c.args.class.now c.args.name.now c.args.time.now in
    let rest =
    reply_octets c.args.reply.now in
    turned_before told rest c.new-turned.ensures.items c.in_ok-write_optional_reply.ensures.written
    c.in_ok-write_told.ensures.written
    ∙ action_written c.args.class.now c.args.name.now c.args.time.now c.args.reply.now
