-- Neither test fails.
use Rattle.std.proofs.Common.{IfOk, subst, ◌∙◌, sym}
use Rattle.std.proofs.Math.Facts.{to_z-of_z}
use Rattle.std.specs.Option.{option_copied}
use Rattle.apdu_receiving.specs.Arrivals.{is_listed}
use Rattle.apdu_receiving.specs.Bringing.{Brings}
use Rattle.apdu_receiving.proofs.Steps.{goes_on}
use Rattle.apdu_receiving.proofs.receiving.receive_invoke.Goals as goal

pub returns-else-is_in_use : goal.returns-else-is_in_use
returns-else-is_in_use c =
    let known = rw (to_z-of_z c.ranges.op) at c.is_operation.ensures in
    let listed = rw (to_z-of_z c.ranges.id) at c.is_in_use.ensures in
    subst (λ brought. IfOk c.receive_operation.result (Brings c.args.schema.now brought))
    (goes_on c.args.schema.now (is_listed c.args.in_use.now) c.args.id c.args.op (option_copied c.args.argument)
    (sym known ∙ c.if-not-is_operation.false) (sym listed ∙ c.if-is_in_use.false))
    (rw (to_z-of_z c.ranges.id, to_z-of_z c.ranges.op) at c.receive_operation.ensures)
