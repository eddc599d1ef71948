-- One section more, and all of them.
use Rattle.std.proofs.Common.{◌<◌, ◌≤◌, ◌+◌, [], ap, arith, length, sym, take}
use Rattle.std.proofs.Math.Path.{subst}
use Rattle.std.specs.Prelude.{flat_map}
use Rattle.std.proofs.lemmas.List.{append-nil, take_all}
use Rattle.gdmo_linking.proofs.StepLaws.{at_place}
use Rattle.gdmo_names.specs.PartViews.{section_instances}
use Rattle.linked_sections.specs.KnownSections.{AreKnownInstances}
use Rattle.linked_sections.specs.LinkedSections.{IsInstance}
use Rattle.linked_sections.proofs.PushLaws.{flat_more, pushes_both, pushes_none, pushes_same}
use Rattle.linked_sections.proofs.linking_instances.linked_instances.Goals as goal

pub loop-section-init : goal.loop-section-init
loop-section-init c = λ parts is.
    pushes_none (AreKnownInstances parts c.args.linker.now c.args.targets.now) (IsInstance parts) [] c.new-linked.result.items
    c.new-linked.ensures.items

pub loop-section-preserved : goal.loop-section-preserved
loop-section-preserved c = λ parts is.
    let xs = c.args.sections.now in
    let i = c.loop-section.section-index in
    let x = c.section-item.result in
    let within : i < length xs = omega (arith, c.loop-section-test.true) in
    let known = AreKnownInstances parts c.args.linker.now c.args.targets.now in
    pushes_same known (IsInstance parts) _ (flat_map section_instances (take (i + 1) xs)) [] c.push_instances.new.linked.items
    (flat_more section_instances xs i x (at_place xs i x within c.section-item.is))
    (pushes_both known (IsInstance parts) (flat_map section_instances (take i xs)) (section_instances x) [] c.loop-section.linked.items
    c.push_instances.new.linked.items (c.loop-section.invariant parts is) (c.in_ok-push_instances.ensures parts is))

pub returns : goal.returns
returns c = λ parts is known.
    let xs = c.args.sections.now in
    let i = c.loop-section.section-index in
    let past : length xs ≤ i = omega (arith, c.loop-section-test.false) in
    pushes_same (AreKnownInstances parts c.args.linker.now c.args.targets.now) (IsInstance parts)
    (flat_map section_instances (take i xs)) (flat_map section_instances xs) [] c.loop-section.linked.items
    (ap (flat_map section_instances) (take_all i xs past)) (c.loop-section.invariant parts is) [] []
    (subst (AreKnownInstances parts c.args.linker.now c.args.targets.now) (sym (append-nil (flat_map section_instances xs))) known) tt
