-- One more end, and all of them.
use Rattle.std.proofs.Common.{◌<◌, None, arith, get_or, length}
use Rattle.linked_types.proofs.NamingLaws.{TellsEnd, end_stays, named_all, named_none, named_step}
use Rattle.linked_types.proofs.TableLaws.{got_any}
use Rattle.linked_types.proofs.derived_attributes.end_types.Goals as goal

pub loop-end-init : goal.loop-end-init
loop-end-init c = λ ms linked known table. named_none (TellsEnd ms linked c.args.attributes.now) c.args.ends.now
    c.new-types.result.items c.args.table.now c.args.bad.now.first c.new-types.ensures.items table

pub loop-end-preserved : goal.loop-end-preserved
loop-end-preserved c = λ ms linked known table.
    let so_far = c.loop-end.invariant ms linked known table in
    let ends = c.args.ends.now in
    let i = c.loop-end.end-index in
    let within : i < length ends = omega (arith, c.loop-end-test.true) in
    named_step (TellsEnd ms linked c.args.attributes.now) ends i c.loop-end.types.items c.push.new.self.items
    (get_or ends i None) c.in_ok-end_type.field-0 (end_stays ms linked c.args.attributes.now)
    (got_any ends i None within)
    c.in_ok-push.ensures.items (c.in_ok-end_type.ensures.told ms linked known so_far.names.table)
    (c.in_ok-end_type.ensures.names ms linked known so_far.names.table) so_far

pub returns-clause-told : goal.returns-clause-told
returns-clause-told c = λ ms linked known table.
    named_all (TellsEnd ms linked c.args.attributes.now) c.args.ends.now c.loop-end.end-index c.loop-end.types.items
    c.loop-end-test.false (c.loop-end.invariant ms linked known table)

pub returns-clause-names : goal.returns-clause-names
returns-clause-names c = λ ms linked known table. (c.loop-end.invariant ms linked known table).names
