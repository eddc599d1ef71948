use Rattle.std.proofs.Math.Path.{subst}
use Rattle.run_command.specs.RunCauses.{HasCause as HasRunRefusalCause}
use Rattle.agent_run.proofs.refusal.of_run.Goals as goal

pub returns-in-BadDocument : goal.returns-in-BadDocument
returns-in-BadDocument c = λ script docs cause.
    subst (λ refusal. HasRunRefusalCause script docs refusal) c.in-BadDocument.is cause
