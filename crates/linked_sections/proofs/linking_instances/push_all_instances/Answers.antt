-- One instance more, and all of them.
use Rattle.std.proofs.Common.{◌<◌, ◌≤◌, ◌+◌, [], ◌∷◌, ap, arith, length, map, refl, take, ◌∙◌}
use Rattle.std.proofs.lemmas.List.{take_all}
use Rattle.gdmo_linking.proofs.StepLaws.{at_place}
use Rattle.gdmo_names.specs.PartViews.{instance_term}
use Rattle.linked_sections.specs.KnownSections.{AreKnownInstances}
use Rattle.linked_sections.specs.LinkedSections.{IsInstance}
use Rattle.linked_sections.proofs.PushLaws.{map_more, pushes_both, pushes_none, pushes_same}
use Rattle.linked_sections.proofs.linking_instances.push_all_instances.Goals as goal

pub loop-instance-init : goal.loop-instance-init
loop-instance-init c = λ parts is.
    pushes_none (AreKnownInstances parts c.args.linker.now c.args.targets.now) (IsInstance parts) c.args.linked.now.items
    c.args.linked.now.items refl

pub loop-instance-preserved : goal.loop-instance-preserved
loop-instance-preserved c = λ parts is.
    let xs = c.as_slice-instances.result.now in
    let i = c.loop-instance.instance-index in
    let x = c.instance-item.result in
    let document = c.args.section.now.document in
    let within : i < length xs = omega (arith, c.loop-instance-test.true) in
    let known = AreKnownInstances parts c.args.linker.now c.args.targets.now in
    pushes_same known (IsInstance parts) _ (map (instance_term document) (take (i + 1) xs)) c.args.linked.now.items
    c.push_instance.new.linked.items
    (map_more (instance_term document) xs i x (at_place xs i x within c.instance-item.is))
    (pushes_both known (IsInstance parts) (map (instance_term document) (take i xs)) (instance_term document x ∷ [])
    c.args.linked.now.items c.loop-instance.linked.items c.push_instance.new.linked.items
    (c.loop-instance.invariant parts is) (c.in_ok-push_instance.ensures parts document is))

pub returns : goal.returns
returns c = λ parts is.
    let xs = c.as_slice-instances.result.now in
    let i = c.loop-instance.instance-index in
    let document = c.args.section.now.document in
    let past : length xs ≤ i = omega (arith, c.loop-instance-test.false) in
    pushes_same (AreKnownInstances parts c.args.linker.now c.args.targets.now) (IsInstance parts)
    (map (instance_term document) (take i xs)) (map (instance_term document) c.args.section.now.instances.items) c.args.linked.now.items
    c.loop-instance.linked.items
    (ap (map (instance_term document)) (take_all i xs past ∙ c.as_slice-instances.ensures.value)) (c.loop-instance.invariant parts is)
