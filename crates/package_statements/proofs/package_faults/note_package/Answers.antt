-- One more of the attributes, and all of them.
use Rattle.std.proofs.Common.{◌<◌, ◌≤◌, ◌≡◌, Some, arith, length}
use Rattle.std.specs.Prelude.{slice_get}
use Rattle.std.proofs.Math.Path.{subst}
use Rattle.class_faults.proofs.PlaceFaultLaws.{before_all, before_none, before_step, got_at}
use Rattle.package_statements.specs.UseFaults.{UseFaults}
use Rattle.package_statements.proofs.package_faults.note_package.Goals as goal

pub loop-stated-init : goal.loop-stated-init
loop-stated-init c = λ ms known.
    before_none (λ place. UseFaults ms c.args.parts.now.linked.now c.args.part.now.head.document)
    c.args.part.now.attributes.items c.args.faults.now.first

pub loop-stated-preserved : goal.loop-stated-preserved
loop-stated-preserved c = λ ms known.
    let part = c.args.part.now in
    let i = c.loop-stated.stated-index in
    let slice = c.deref-stated-items.result.now in
    let item = c.stated-item.result in
    let within : i < length slice = omega (arith, c.loop-stated-test.true) in
    before_step (λ place. UseFaults ms c.args.parts.now.linked.now part.head.document) part.attributes.items i item
    (subst (λ xs. slice_get xs i ≡ Some item) c.deref-stated-items.ensures.value
    (got_at slice i item within c.stated-item.is))
    (c.loop-stated.invariant ms known) (c.in_ok-note_use.ensures ms known)

pub returns : goal.returns
returns c = λ ms known.
    before_all (λ place. UseFaults ms c.args.parts.now.linked.now c.args.part.now.head.document)
    c.args.part.now.attributes.items c.loop-stated.stated-index
    (subst (λ xs. length xs ≤ c.loop-stated.stated-index) c.deref-stated-items.ensures.value c.loop-stated-test.false)
    (c.loop-stated.invariant ms known)
