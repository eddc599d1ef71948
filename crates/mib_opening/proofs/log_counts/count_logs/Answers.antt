use Rattle.std.proofs.Common.{◌∙◌, ap, arith, length}
use Rattle.mib_opening.proofs.LogLaws.{begin_told, step_told}
use Rattle.mib_opening.proofs.log_counts.count_logs.Goals as goal

pub loop-i-init : goal.loop-i-init
loop-i-init g c =
    begin_told c.args.schema.now c.args.mib.now c.logs.inside.items.items _ (ap length c.as_slice-i.ensures.value)
    (c.logs.view_is ∙ c.in_ok-logs.ensures.names)

pub loop-i-preserved : goal.loop-i-preserved
loop-i-preserved g c =
    let long = ap length c.as_slice-i.ensures.value in
    step_told c.args.schema.now c.args.mib.now c.logs.inside.items.items c.loop-i.i c.index.result.now c.loop-i.mib
    c.recount.new.mib c.in_ok-logs.ensures.rising (c.logs.view_is ∙ c.in_ok-logs.ensures.names) (omega arith)
    (omega (arith, long)) c.index.ensures c.loop-i.invariant c.in_ok-recount.ensures
