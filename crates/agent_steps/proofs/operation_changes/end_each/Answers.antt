use Rattle.std.proofs.Common.{◌≡◌, ◌<◌, length, get_or, arith, rules, ap, ◌∙◌, set, sym}
use Rattle.std.proofs.lemmas.List.Edits.{map_over_more}
use Rattle.agent_model.specs.Step.{ended_with}
use Rattle.agent_steps.proofs.operation_changes.end_each.Goals as goal

pub loop-operation-preserved : goal.loop-operation-preserved
loop-operation-preserved c =
    let within : c.loop-operation.operation-index < length c.args.operations.now = omega arith in
    let item = c.operation-item.result in
    let is : item ≡ get_or c.loop-operation.operations c.loop-operation.operation-index item = search rules in
    ap (λ o. set c.loop-operation.operations c.loop-operation.operation-index o) c.end_outstanding.ensures
    ∙ (ap (λ o. set c.loop-operation.operations c.loop-operation.operation-index
    (ended_with c.args.number c.args.place o)) (sym is)
    ∙ map_over_more (ended_with c.args.number c.args.place) c.args.operations.now c.loop-operation.operations
    c.loop-operation.operation-index item within c.loop-operation.invariant is)
