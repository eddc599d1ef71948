-- The contents octets are those of the reason's identifier.
use Rattle.result_contents.proofs.FailureForms.{reason_contents}
use Rattle.result_contents.proofs.failures.write_reason.Goals as goal

pub returns-clause-written : goal.returns-clause-written
returns-clause-written c =
    rw (reason_contents c.args.reason, ← c.reason_arc-arc.ensures) c.write_value_backwards.ensures.written
