-- One pair more, and all of them.
use Rattle.std.proofs.Common.{◌<◌, ◌≤◌, ap, arith, length, map, sym, ◌∙◌}
use Rattle.std.proofs.Math.Path.{subst}
use Rattle.std.proofs.lemmas.List.{length-map}
use Rattle.std.specs.Option.{option_and_then}
use Rattle.gdmo_linking.proofs.StepLaws.{all_at, at_place, each_at, each_begun, each_done, each_more, map_at}
use Rattle.gdmo_names.specs.Mentions.{mention}
use Rattle.gdmo_names.specs.PartViews.{pair_term}
use Rattle.gdmo_names.specs.TemplateTerms.ReferenceTerm.{ByLabel}
use Rattle.gdmo_targets.specs.SectionTables.{TellsPair}
use Rattle.linked_sections.specs.KnownSections.{IsCompletePair}
use Rattle.linked_sections.specs.LinkedSections.{IsPair}
use Rattle.linked_sections.proofs.linking_instances.linked_pairs.Goals as goal

pub loop-k-init : goal.loop-k-init
loop-k-init c = λ parts document role is complete each.
    each_begun (IsPair parts document role) (map pair_term c.args.pairs.now) c.new-linked.result.items
    c.new-linked.ensures.items

pub loop-k-preserved : goal.loop-k-preserved
loop-k-preserved c = λ parts document role is complete each.
    let pairs = c.args.pairs.now in
    let views = map pair_term pairs in
    let k = c.loop-k.k in
    let own = c.index-pairs-k.result in
    let tells = TellsPair parts c.args.linker.now.linkage.templates.now document role in
    let within : k < length pairs = omega (arith, c.loop-k-test.true) in
    let at = map_at pair_term pairs k own (at_place pairs k own within c.index-pairs-k.is) in
    let there = each_at tells views c.args.targets.now k (pair_term own) each at in
    let told = subst (tells (pair_term own)) (sym (c.target_at.ensures ∙ ap (option_and_then (λ y. y)) there.1)) there.2 in
    let known = all_at (IsCompletePair parts document role) views k (pair_term own) complete at in
    each_more (IsPair parts document role) views c.loop-k.linked.items c.push.new.self.items k (pair_term own) _ at
    (c.loop-k.invariant parts document role is complete each)
    (record {
      is_attribute = c.place.ensures parts document (mention role (ByLabel own.attribute)) is known told;
      is_value = c.in_ok-value.ensures.tree;
    }) c.in_ok-push.ensures.items

pub returns : goal.returns
returns c = λ parts document role is complete each.
    let views = map pair_term c.args.pairs.now in
    let past : length views ≤ c.loop-k.k =
    (let size = length-map c.args.pairs.now pair_term in omega (arith, size, c.loop-k-test.false)) in
    each_done (IsPair parts document role) views c.loop-k.linked.items c.loop-k.k past
    (c.loop-k.invariant parts document role is complete each)
