-- An attribute more, and all of them.
use Rattle.std.proofs.Common.{◌<◌, ◌≤◌, arith, length}
use Rattle.asn1_names.specs.TermViews.{module_terms}
use Rattle.gdmo_names.proofs.NotingLaws.{noted_end, noted_step}
use Rattle.gdmo_types.proofs.QualifiedLaws.{UseFaults, package_noted}
use Rattle.gdmo_types.proofs.module_names.NamedThings.note_package.Goals as goal

pub loop-x-preserved : goal.loop-x-preserved
loop-x-preserved c = λ are.
    let within : c.loop-x.x-index < length c.deref-x-items.result.now = omega (arith, c.loop-x-test.true) in
    noted_step (UseFaults (module_terms c.args.self.now.types.now) c.args.document) (λ x. x)
    c.deref-x-items.result.now c.loop-x.x-index c.x-item.result within c.x-item.is (c.loop-x.invariant are)
    (c.note_properties.ensures are)

pub returns-after-loop-x : goal.returns-after-loop-x
returns-after-loop-x c = λ are.
    let past : length c.deref-x-items.result.now ≤ c.loop-x.x-index = omega (arith, c.loop-x-test.false) in
    package_noted (module_terms c.args.self.now.types.now) c.args.document c.args.template.now.attributes
    c.in-Some.attributes c.deref-x-items.result.now c.args.faults.now.first c.loop-x.faults.first c.in-Some.is
    c.deref-x-items.ensures.value
    (noted_end (UseFaults (module_terms c.args.self.now.types.now) c.args.document) (λ x. x)
    c.deref-x-items.result.now c.loop-x.x-index past (c.loop-x.invariant are))
