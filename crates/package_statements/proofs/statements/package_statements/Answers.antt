-- One more of the attributes, and all of them.
use Rattle.std.proofs.Common.{◌≡◌, ◌<◌, ◌≤◌, Some, arith, length}
use Rattle.std.specs.Prelude.{slice_get}
use Rattle.std.proofs.Math.Path.{subst}
use Rattle.class_faults.proofs.PlaceFaultLaws.{got_at}
use Rattle.linked_types.proofs.NamingLaws.{named_all, named_none, named_step}
use Rattle.package_statements.proofs.StatementLaws.{KnownUse, known_uses, use_stays}
use Rattle.package_statements.proofs.statements.package_statements.Goals as goal

pub loop-stated-init : goal.loop-stated-init
loop-stated-init c = λ ms linked known table.
    named_none (KnownUse ms linked c.args.values.now) c.args.part.now.attributes.items c.new-statements.result.items
    c.args.table.now c.args.bad.now.first c.new-statements.ensures.items table

pub loop-stated-preserved : goal.loop-stated-preserved
loop-stated-preserved c = λ ms linked known table.
    let values = c.args.values.now in
    let part = c.args.part.now in
    let so_far = c.loop-stated.invariant ms linked known table in
    let i = c.loop-stated.stated-index in
    let slice = c.deref-stated-items.result.now in
    let item = c.stated-item.result in
    let within : i < length slice = omega (arith, c.loop-stated-test.true) in
    named_step (KnownUse ms linked values) part.attributes.items i c.loop-stated.statements.items c.push.new.self.items
    item c.in_ok-statement_of.field-0 (use_stays ms linked values)
    (subst (λ xs. slice_get xs i ≡ Some item) c.deref-stated-items.ensures.value
    (got_at slice i item within c.stated-item.is))
    c.in_ok-push.ensures.items
    (λ assigned. c.in_ok-statement_of.ensures.told ms linked known assigned so_far.names.table)
    (c.in_ok-statement_of.ensures.names ms linked known so_far.names.table) so_far

pub returns-clause-told : goal.returns-clause-told
returns-clause-told c = λ ms linked known assigned table.
    let values = c.args.values.now in
    let part = c.args.part.now in
    known_uses ms linked values c.loop-stated.table part c.loop-stated.statements assigned
    (named_all (KnownUse ms linked values) part.attributes.items c.loop-stated.stated-index
    c.loop-stated.statements.items
    (subst (λ xs. length xs ≤ c.loop-stated.stated-index) c.deref-stated-items.ensures.value c.loop-stated-test.false)
    (c.loop-stated.invariant ms linked known table))

pub returns-clause-names : goal.returns-clause-names
returns-clause-names c = λ ms linked known table. (c.loop-stated.invariant ms linked known table).names
