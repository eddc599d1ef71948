-- The fields are those of an Invoke.
use Rattle.std.proofs.Common.{IfOk, rules, subst, w32, w64}
use Rattle.std.proofs.Math.Facts.{to_z-of_z}
use Rattle.apdu_receiving.specs.Arrivals.{is_listed}
use Rattle.apdu_receiving.specs.Bringing.{Brings}
use Rattle.apdu_receiving.proofs.receiving.receive_inside.Goals as goal

pub returns-in-Some : goal.returns-in-Some
returns-in-Some c =
    let id = to_z-of_z {w = w32} {z = c.in-Some.parts.id} (search rules) in
    let op = to_z-of_z {w = w64} {z = c.in-Some.parts.op} (search rules) in
    let parts = rw c.in-Some.is at c.invoke_parts.ensures c.args.schema.now (is_listed c.args.in_use.now) in
    subst (λ told. IfOk c.receive_invoke.result (Brings c.args.schema.now told)) parts
    (rw (id, op) at c.receive_invoke.ensures)
