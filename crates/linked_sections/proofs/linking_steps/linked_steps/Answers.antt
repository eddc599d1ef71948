-- One step more, and all of them.
use Rattle.std.proofs.Common.{◌<◌, ◌≤◌, ap, arith, length, map, sym, ◌∙◌}
use Rattle.std.proofs.Math.Path.{subst}
use Rattle.std.proofs.lemmas.List.{length-map}
use Rattle.std.specs.Option.{option_and_then}
use Rattle.gdmo_linking.proofs.StepLaws.{all_at, at_place, each_at, each_begun, each_done, each_more, map_at}
use Rattle.gdmo_names.specs.PartViews.{step_term}
use Rattle.gdmo_targets.specs.SectionTables.{TellsStep}
use Rattle.linked_sections.specs.KnownSections.{IsCompleteStep}
use Rattle.linked_sections.specs.LinkedSections.{IsStep}
use Rattle.linked_sections.proofs.PlacedLaws.{step_linked}
use Rattle.linked_sections.proofs.linking_steps.linked_steps.Goals as goal

pub loop-k-init : goal.loop-k-init
loop-k-init c = λ parts rule is complete each.
    each_begun (IsStep parts rule) (map step_term c.args.steps.now) c.new-linked.result.items c.new-linked.ensures.items

pub loop-k-preserved : goal.loop-k-preserved
loop-k-preserved c = λ parts rule is complete each.
    let linker = c.args.linker.now in
    let steps = c.args.steps.now in
    let views = map step_term steps in
    let k = c.loop-k.k in
    let own = c.index-steps-k.result in
    let tells = TellsStep parts linker.linkage.templates.now rule.document in
    let within : k < length steps = omega (arith, c.loop-k-test.true) in
    let at = map_at step_term steps k own (at_place steps k own within c.index-steps-k.is) in
    let there = each_at tells views c.args.targets.now k (step_term own) each at in
    let told = subst (tells (step_term own)) (sym (c.target_at.ensures ∙ ap (option_and_then (λ y. y)) there.1)) there.2 in
    let known = all_at (IsCompleteStep parts rule) views k (step_term own) complete at in
    each_more (IsStep parts rule) views c.loop-k.linked.items c.push.new.self.items k (step_term own) _ at
    (c.loop-k.invariant parts rule is complete each)
    (c.in_ok-linked_step.ensures parts rule is known
    (step_linked parts linker rule (step_term own) c.target_at.result c.place.result is known told c.place.ensures))
    c.in_ok-push.ensures.items

pub returns : goal.returns
returns c = λ parts rule is complete each.
    let views = map step_term c.args.steps.now in
    let past : length views ≤ c.loop-k.k =
    (let size = length-map c.args.steps.now step_term in omega (arith, size, c.loop-k-test.false)) in
    each_done (IsStep parts rule) views c.loop-k.linked.items c.loop-k.k past
    (c.loop-k.invariant parts rule is complete each)
