-- The contents under their header.
use Rattle.std.proofs.Common.{rules}
use Rattle.cmip_replies.proofs.event_writing.write_argument.Goals as goal

pub returns-clause-written : goal.returns-clause-written
returns-clause-written c =
    c.in_ok-close_value.ensures.written c.args.into.now.items _ (search rules)
    c.in_ok-write_event_contents.ensures.written
