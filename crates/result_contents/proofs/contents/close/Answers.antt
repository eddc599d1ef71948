-- The header stands before the contents.
use Rattle.std.proofs.Common.{◌-◌, length, ap, ◌∙◌}
use Rattle.ber_tree.proofs.Backwards.{behind_start, value_closed}
use Rattle.result_contents.proofs.contents.close.Goals as goal

pub returns-clause-written : goal.returns-clause-written
returns-clause-written c = λ before contents begin is.
    value_closed before contents c.args.tag is
    (ap (λ xs. length xs - c.args.start) c.as_slice.ensures.value
    ∙ behind_start before contents c.args.into.now.items c.args.start begin is)
    c.in_ok-write_header_backwards.ensures.written
