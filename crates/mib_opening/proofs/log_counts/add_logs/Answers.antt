use Rattle.std.proofs.Common.{◌++◌}
use Rattle.mib_opening.specs.LogOrder.{log_names}
use Rattle.mib_opening.specs.Walks.{behind}
use Rattle.mib_opening.proofs.LogLaws.{way_ends, way_on}
use Rattle.mib_opening.proofs.WalkLaws.{one_fewer}
use Rattle.mib_opening.proofs.log_counts.add_logs.Goals as goal

pub loop-next-smaller : goal.loop-next-smaller
loop-next-smaller g c =
    one_fewer c.loop-next.here.now (record { name = c.in-Some.next.now; object = c.in-Some.object.now })
    (g.M.Ranged.objects c.args.mib.now) c.after.ensures.rising c.in-Some.ensures.next

pub loop-next-preserved : goal.loop-next-preserved
loop-next-preserved g c =
    let objects = g.M.Ranged.objects c.args.mib.now in
    way_on c.args.schema.now c.loop-next.here.now
    (record { name = c.in-Some.next.now; object = c.in-Some.object.now }) objects
    (c.args.logs.now ++ log_names c.args.schema.now (behind c.args.name.now objects)) c.loop-next.logs
    c.add_log.new.logs c.after.ensures.rising c.in-Some.ensures.next c.in_ok-add_log.ensures c.loop-next.invariant

pub returns : goal.returns
returns g c =
    let objects = g.M.Ranged.objects c.args.mib.now in
    way_ends c.args.schema.now c.loop-next.here.now objects
    (c.args.logs.now ++ log_names c.args.schema.now (behind c.args.name.now objects)) c.loop-next.logs
    c.in_default.ensures.next c.loop-next.invariant
