use Rattle.std.proofs.Common.{true, sym}
use Rattle.std.proofs.Math.Path.{subst}
use Rattle.set_commands.specs.CommandTexts.{HasObjects}
use Rattle.set_commands.specs.CommandTexts.HasObjects.{opened_at}
use Rattle.set_commands.proofs.commands.opened_count.Goals as goal

pub returns-in-Ok-clause-count : goal.returns-in-Ok-clause-count
returns-in-Ok-clause-count g c =
    subst (λ n. HasObjects c.args.schema.now true n) (sym c.len.ensures) (opened_at c.in-Ok.ensures.opened)
