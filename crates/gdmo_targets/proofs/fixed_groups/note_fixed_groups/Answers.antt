-- One more place, and all of them.
use Rattle.std.proofs.Common.{◌≡◌, ◌<◌, ◌≤◌, ◌+◌, ◌∙◌, ap, arith, get_or, length, rules, subst, sym}
use Rattle.std.specs.Prelude.{slice_get}
use Rattle.gdmo_names.specs.FoundViews.{found_term, found_view}
use Rattle.gdmo_names.specs.GroupFaults.{has_found_role, is_added_role}
use Rattle.gdmo_names.specs.Mentions.{template_mentions}
use Rattle.gdmo_names.specs.TargetTables.{IsMention}
use Rattle.gdmo_targets.proofs.GroupLaws.{groups_none, groups_noted, place_noted}
use Rattle.gdmo_targets.proofs.PlaceLaws.{same_number}
use Rattle.gdmo_targets.proofs.fixed_groups.note_fixed_groups.Goals as goal

pub loop-place-init : goal.loop-place-init
loop-place-init c = λ parts has tells. groups_none parts c.args.found.now.document
    (template_mentions (found_term c.args.found.now)) c.args.faults.now.first

pub loop-place-preserved : goal.loop-place-preserved
loop-place-preserved c = λ parts has tells.
    let same : c.as_slice-mentions.result.now ≡ c.args.found.now.mentions.items = search rules in
    place_noted parts c.args.templates.now c.args.found.now.document c.args.found.now.mentions.items
    (template_mentions (found_term c.args.found.now)) c.args.targets.now c.loop-place.place
    c.index-mentions-place.result c.number_at-number.result c.is_added_at-added.result has tells
    (subst (λ xs. c.loop-place.place < length xs) same (omega (arith, c.loop-place-test.true)))
    (subst (λ xs. c.index-mentions-place.result ≡ get_or xs c.loop-place.place c.index-mentions-place.result) same
    c.index-mentions-place.is) c.number_at-number.ensures
    (c.is_added_at-added.ensures ∙ ap (λ xs. has_found_role is_added_role (slice_get xs (c.loop-place.place + 1))) same)
    (c.loop-place.invariant parts has tells) (λ x is told. c.note_fixed_group.ensures parts x is told)

pub returns : goal.returns
returns c = λ parts has tells.
    let same : c.as_slice-mentions.result.now ≡ c.args.found.now.mentions.items = search rules in
    let past : length c.args.found.now.mentions.items ≤ c.loop-place.place =
    subst (λ xs. length xs ≤ c.loop-place.place) same (omega (arith, c.loop-place-test.false)) in
    groups_noted parts (found_view c.args.found.now) c.loop-place.place
    (subst (λ n. n ≤ c.loop-place.place)
    (same_number (IsMention c.args.templates.now c.args.found.now.document) c.args.found.now.mentions.items
    (template_mentions (found_term c.args.found.now)) has) past) (c.loop-place.invariant parts has tells)
