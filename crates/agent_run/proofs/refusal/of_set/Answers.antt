use Rattle.std.proofs.Math.Path.{subst}
use Rattle.set_commands.specs.CommandTexts.{HasCause as HasSetRefusalCause}
use Rattle.agent_run.proofs.refusal.of_set.Goals as goal

pub returns-in-BadDocument : goal.returns-in-BadDocument
returns-in-BadDocument c = λ docs cause.
    subst (λ refusal. HasSetRefusalCause docs refusal) c.in-BadDocument.is cause
