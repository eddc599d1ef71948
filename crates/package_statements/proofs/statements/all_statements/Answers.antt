-- One more of the packages, and all of them.
use Rattle.std.proofs.Common.{◌<◌, arith, length}
use Rattle.class_faults.proofs.PlaceFaultLaws.{got_at}
use Rattle.linked_types.proofs.NamingLaws.{named_all, named_none, named_step}
use Rattle.package_statements.proofs.StatementLaws.{KnownPackage, known_packages, package_stays}
use Rattle.package_statements.proofs.statements.all_statements.Goals as goal

pub loop-part-init : goal.loop-part-init
loop-part-init c = λ ms linked known table.
    named_none (KnownPackage ms linked c.args.values.now) c.args.packages.now c.new-statements.result.items
    c.args.table.now c.args.bad.now.first c.new-statements.ensures.items table

pub loop-part-preserved : goal.loop-part-preserved
loop-part-preserved c = λ ms linked known table.
    let values = c.args.values.now in
    let packages = c.args.packages.now in
    let so_far = c.loop-part.invariant ms linked known table in
    let i = c.loop-part.part-index in
    let item = c.part-item.result in
    let within : i < length packages = omega (arith, c.loop-part-test.true) in
    named_step (KnownPackage ms linked values) packages i c.loop-part.statements.items c.push.new.self.items
    item c.in_ok-package_statements.field-0 (package_stays ms linked values)
    (got_at packages i item within c.part-item.is)
    c.in_ok-push.ensures.items
    (λ assigned. c.in_ok-package_statements.ensures.told ms linked known assigned so_far.names.table)
    (c.in_ok-package_statements.ensures.names ms linked known so_far.names.table) so_far

pub returns-clause-told : goal.returns-clause-told
returns-clause-told c = λ ms linked known assigned table.
    let values = c.args.values.now in
    known_packages ms linked values c.loop-part.table c.args.packages.now c.loop-part.statements.items assigned
    (named_all (KnownPackage ms linked values) c.args.packages.now c.loop-part.part-index
    c.loop-part.statements.items c.loop-part-test.false (c.loop-part.invariant ms linked known table))

pub returns-clause-names : goal.returns-clause-names
returns-clause-names c = λ ms linked known table. (c.loop-part.invariant ms linked known table).names
