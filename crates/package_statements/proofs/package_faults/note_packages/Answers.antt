-- One more of the packages, and all of them: these are the faults that are told.
use Rattle.std.proofs.Common.{◌<◌, ◌≤◌, ◌≡◌, Some, arith, length}
use Rattle.std.specs.Prelude.{slice_get}
use Rattle.std.proofs.Math.Path.{subst}
use Rattle.class_faults.proofs.PlaceFaultLaws.{before_all, before_none, before_step, got_at}
use Rattle.package_statements.specs.UseFaults.{FaultsOfPackage}
use Rattle.package_statements.proofs.FaultLaws.{all_noted}
use Rattle.package_statements.proofs.package_faults.note_packages.Goals as goal

pub loop-part-init : goal.loop-part-init
loop-part-init c = λ ms known.
    let linked = c.args.parts.now.linked.now in
    before_none (λ place. FaultsOfPackage ms linked) linked.packages.items c.args.faults.now.first

pub loop-part-preserved : goal.loop-part-preserved
loop-part-preserved c = λ ms known.
    let linked = c.args.parts.now.linked.now in
    let i = c.loop-part.part-index in
    let slice = c.deref-part-items.result.now in
    let item = c.part-item.result in
    let within : i < length slice = omega (arith, c.loop-part-test.true) in
    before_step (λ place. FaultsOfPackage ms linked) linked.packages.items i item
    (subst (λ xs. slice_get xs i ≡ Some item) c.deref-part-items.ensures.value
    (got_at slice i item within c.part-item.is))
    (c.loop-part.invariant ms known) (c.in_ok-note_package.ensures ms known)

pub returns : goal.returns
returns c = λ ms known.
    let linked = c.args.parts.now.linked.now in
    all_noted ms linked (before_all (λ place. FaultsOfPackage ms linked) linked.packages.items c.loop-part.part-index
    (subst (λ xs. length xs ≤ c.loop-part.part-index) c.deref-part-items.ensures.value c.loop-part-test.false)
    (c.loop-part.invariant ms known))
