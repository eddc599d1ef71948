-- What was noted beside the map tells the outcome.
use Rattle.std.proofs.Common.{ap, ◌∙◌, subst, sym}
use Rattle.term_model.specs.NamedObjects.{names}
use Rattle.scope_select.specs.Subtrees.{referred}
use Rattle.op_engine.specs.Acting.{act_of, noted_of, nothing_done}
use Rattle.op_engine.specs.Selecting.{AreThere}
use Rattle.operation_model.specs.OperationChecks.{checked}
use Rattle.operation_model.specs.OperationConditions.{AreSmall}
use Rattle.op_engine.specs.Plans.{IsPlan}
use Rattle.operation_model.specs.WholeOperation.{acted, is_atomic}
use Rattle.op_engine.proofs.OutcomeLaws.{ok_gives, planned, planned_refusal}
use Rattle.op_engine.proofs.OwnLaws.{is_alone, is_own}
use Rattle.op_engine.proofs.SmallLaws.{all_small, checked_error}
use Rattle.op_engine.proofs.planning.plan_scoped.Goals as goal

pub act_on_all-requires : goal.act_on_all-requires
act_on_all-requires g c =
    let objects = g.M.Ranged.objects c.args.mib.now in
    let schema = c.args.schema.now in
    record {
      small = subst (λ es. AreSmall schema (referred es)) (sym c.as_slice.ensures.value)
          (all_small schema objects (referred c.in-Ok.entries.items) c.requires.small c.in-Ok.ensures.there);
    }

pub returns-in_ok-made-in-Ok : goal.returns-in_ok-made-in-Ok
returns-in_ok-made-in-Ok g c =
    let objects = g.M.Ranged.objects c.args.mib.now in
    let schema = c.args.schema.now in
    let request = c.args.request.now in
    let checks = checked schema objects c.args.head.now c.args.count in
    let act = act_of schema request c.args.time in
    let entries = c.in-Ok.entries.items in
    let slice_is = c.as_slice.ensures.value in
    ok_gives _ (IsPlan objects (acted objects c.args.head.now c.args.number act checks))
    c.plan_of.result
    (λ plan is. planned act (is_own schema request c.args.time)
    (is_alone schema request c.args.time) objects c.args.head.now c.args.number checks (names (referred entries))
    c.in-Ok.ensures.told c.in-Ok.ensures.rising c.in_ok-made-in-Ok.made c.settled.result
    (c.in_ok-made-in-Ok.ensures objects
    (subst (λ es. AreThere objects (referred es)) (sym slice_is) c.in-Ok.ensures.there)
    ∙ ap (λ b. noted_of b act objects nothing_done (names (referred c.as_slice.result.now))) c.is_atomic.ensures
    ∙ ap (λ es. noted_of (is_atomic c.args.head.now) act objects nothing_done (names (referred es))) slice_is)
    c.settled.ensures plan is)
    c.plan_of.ensures

pub returns-in-Err-Cmis : goal.returns-in-Err-Cmis
returns-in-Err-Cmis g c =
    let objects = g.M.Ranged.objects c.args.mib.now in
    let schema = c.args.schema.now in
    let checks = checked schema objects c.args.head.now c.args.count in
    ok_gives _ (IsPlan objects (acted objects c.args.head.now c.args.number
    (act_of schema c.args.request.now c.args.time) checks)) c.refused_plan.result
    (λ plan is. planned_refusal (act_of schema c.args.request.now c.args.time) objects c.args.head.now c.args.number
    checks c.in-Err-Cmis.error
    (checked_error checks c.in-Err-Cmis.field-0 c.in-Err-Cmis.error c.in-Err-Cmis.field-0-is
    c.in-Err-Cmis.ensures.told) plan is)
    c.refused_plan.ensures
