use Rattle.std.proofs.Common.{inl, inr, refl}
use Rattle.term_model.specs.declared.objects.NamedObject.{NamedObject}
use Rattle.mib_opening.proofs.CountLaws.{begins, ends, goes_on}
use Rattle.mib_opening.proofs.RecordLaws.{from_next}
use Rattle.mib_opening.proofs.WalkLaws.{found_behind, one_fewer}
use Rattle.mib_opening.proofs.log_records.record_sums.Goals as goal

pub loop-next-init : goal.loop-next-init
loop-next-init g c =
    begins c.args.schema.now c.args.log.now (g.M.Ranged.objects c.args.mib.now) _ refl refl (inl refl)

pub loop-next-smaller : goal.loop-next-smaller
loop-next-smaller g c =
    one_fewer c.loop-next.here.now (record { name = c.in-Some.next.now; object = c.in-Some.object.now })
    (g.M.Ranged.objects c.args.mib.now) c.next_below.ensures.rising c.in-Some.ensures.next

pub loop-next-preserved : goal.loop-next-preserved
loop-next-preserved g c =
    let objects = g.M.Ranged.objects c.args.mib.now in
    let here = c.loop-next.here.now in
    let next : NamedObject = record { name = c.in-Some.next.now; object = c.in-Some.object.now } in
    let low = found_behind here next objects c.in-Some.ensures.next in
    goes_on c.args.schema.now c.args.log.now objects here next c.loop-next.sums c.add_record.new.sums
    c.next_below.ensures.rising c.in-Some.ensures.next
    (inr (from_next c.args.log.now here next.name c.loop-next.invariant.from low)) c.in_ok-add_record.ensures
    c.loop-next.invariant

pub returns : goal.returns
returns g c =
    ends c.args.schema.now c.args.log.now (g.M.Ranged.objects c.args.mib.now) c.loop-next.here.now c.loop-next.sums
    c.next_below.ensures.rising c.in_default.ensures.next c.loop-next.invariant
