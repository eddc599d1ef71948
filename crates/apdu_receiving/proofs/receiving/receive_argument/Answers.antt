-- Which of the two the argument is of.
use Rattle.std.proofs.Common.{IfOk, subst, sym, ap, ◌∙◌, to_z, of_z, w64}
use Rattle.std.proofs.Math.Facts.{to_z-of_z}
use Rattle.apdu_receiving.specs.Bringing.{Brings}
use Rattle.apdu_receiving.proofs.Steps.{asks, cancels}
use Rattle.apdu_receiving.proofs.receiving.receive_argument.Goals as goal

pub returns-then-op-eq-M_CANCEL_GET : goal.returns-then-op-eq-M_CANCEL_GET
returns-then-op-eq-M_CANCEL_GET c =
    let is = sym (to_z-of_z c.ranges.op) ∙ ap (to_z w64) c.if-op-eq-M_CANCEL_GET.true in
    subst (λ brought. Brings c.args.schema.now brought c.receive_cancel.result)
    (cancels c.args.schema.now c.args.id c.args.op c.args.argument.now is)
    (rw (to_z-of_z c.ranges.id) at c.receive_cancel.ensures c.args.schema.now)

pub returns-else-op-eq-M_CANCEL_GET : goal.returns-else-op-eq-M_CANCEL_GET
returns-else-op-eq-M_CANCEL_GET c =
    subst (λ brought. IfOk c.receive_request.result (Brings c.args.schema.now brought))
    (asks c.args.schema.now c.args.id c.args.op c.args.argument.now
    (λ is. c.if-op-eq-M_CANCEL_GET.false (ap (of_z w64) is)))
    (rw (to_z-of_z c.ranges.id, to_z-of_z c.ranges.op) at c.receive_request.ensures)
