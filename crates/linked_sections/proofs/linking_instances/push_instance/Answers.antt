-- The instance that comes next.
use Rattle.std.proofs.Common.{◌≡◌, ap, length, sym, ◌∙◌}
use Rattle.gdmo_linking.proofs.StepLaws.{each_size}
use Rattle.gdmo_names.specs.PartViews.{instance_term}
use Rattle.gdmo_targets.specs.SectionTables.{IsInstanceTargets}
use Rattle.linked_sections.specs.KnownSections.{IsCompleteInstance}
use Rattle.linked_sections.specs.LinkedSections.{IsInstance}
use Rattle.linked_sections.proofs.PushLaws.{got_none, got_one, next_is, next_pushed, next_there, next_told}
use Rattle.linked_sections.proofs.linking_instances.push_instance.Goals as goal

pub returns-in_ok-push-in-Some : goal.returns-in_ok-push-in-Some
returns-in_ok-push-in-Some c = λ parts document is before behind known each.
    let x = instance_term document c.args.instance.now in
    let i = length c.as_slice.result.now in
    let here : i ≡ length before = ap length c.as_slice.ensures.value ∙ sym (each_size (IsInstance parts) before
    c.args.linked.now.items each) in
    let at = got_one c.args.targets.now i c.get.result c.in-Some.own c.get.ensures.lookup.0 c.get.ensures.lookup.1
    c.in-Some.is in
    next_pushed (IsInstance parts) before x c.args.linked.now.items c.push.new.self.items
    c.in_ok-instance-in-Some.instance each
    (c.in_ok-instance-in-Some.ensures parts document is (next_is (IsCompleteInstance parts) before behind x known.complete)
    (next_told (IsInstanceTargets parts c.args.linker.now.linkage.templates.now) before behind x c.args.targets.now i
    c.in-Some.own.now known.told here at))
    c.in_ok-push-in-Some.ensures.items

pub returns-in-None : goal.returns-in-None
returns-in-None c = λ parts document is before behind known each.
    let x = instance_term document c.args.instance.now in
    let i = length c.as_slice.result.now in
    let here : i ≡ length before = ap length c.as_slice.ensures.value ∙ sym (each_size (IsInstance parts) before
    c.args.linked.now.items each) in
    absurd (next_there (IsInstanceTargets parts c.args.linker.now.linkage.templates.now) before behind x c.args.targets.now i
    known.told here (got_none c.args.targets.now i c.get.result c.get.ensures.lookup.0 c.get.ensures.lookup.1
    c.in-None.is))
