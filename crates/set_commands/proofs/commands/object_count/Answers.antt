use Rattle.std.proofs.Common.{false, sym, rules}
use Rattle.std.proofs.Math.Path.{subst}
use Rattle.set_commands.specs.CommandTexts.{HasObjects}
use Rattle.set_commands.specs.CommandTexts.HasObjects.{without_instances}
use Rattle.set_commands.proofs.commands.object_count.Goals as goal

pub returns-else-compiled-clause-count : goal.returns-else-compiled-clause-count
returns-else-compiled-clause-count c =
    subst (λ b. HasObjects c.args.compiled.now.schema b 0) (search rules) without_instances
