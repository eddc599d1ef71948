-- One group more, and all of them.
use Rattle.std.proofs.Common.{◌≡◌, ◌<◌, ◌≤◌, ◌+◌, ◌^◌, ◌∙◌, ap, arith, drop, length, rules, sym, take}
use Rattle.std.proofs.Math.Path.{subst}
use Rattle.std.proofs.lemmas.List.{length-drop}
use Rattle.gdmo_linking.specs.LinkedTables.{AreLinked}
use Rattle.gdmo_linking.specs.Linkers.{LinksMention}
use Rattle.gdmo_linking.proofs.StepLaws.{at_place, each_begun, each_done, each_more, each_number}
use Rattle.gdmo_names.specs.InStep.{AreEach}
use Rattle.gdmo_names.specs.Mentions.Role.{AddedAttribute}
use Rattle.linked_packages.specs.PackageTexts.{IsGroupText, LinksGroup, added_mentions, added_terms}
use Rattle.linked_packages.proofs.AddedLaws.{exact, next_group}
use Rattle.linked_packages.proofs.linking_packages.linked_groups.Goals as goal

pub loop-k-init : goal.loop-k-init
loop-k-init c = λ parts document each added. (
  each_begun (IsGroupText parts document) c.args.uses.now c.new-linked.result.items c.new-linked.ensures.items,
  added,
  omega arith,
)

pub loop-k-preserved : goal.loop-k-preserved
loop-k-preserved c = λ parts document each all_added.
    let uses = c.args.uses.now in
    let added = c.args.added.now in
    let k = c.loop-k.k in
    let next = c.loop-k.next in
    let own = c.index-uses-k.result in
    let within : k < length uses = omega (arith, c.loop-k-test.true) in
    let so_far = c.loop-k.invariant parts document each all_added in
    let here = next_group parts document uses added k next own within c.index-uses-k.is so_far.1 in
    let count = length own.attributes.items in
    let counted : length c.as_slice-count.result.now ≡ count = ap length c.as_slice-count.ensures.value in
    let fits = here.fits in
    let size = length-drop next added in
    let small : length added < 2 ^ 64 = search rules in
    let not_past = so_far.2 in
    let further : c.saturating_add-next.result ≡ next + count =
    exact next (length c.as_slice-count.result.now) c.saturating_add-next.result c.saturating_add-next.ensures
    (omega (arith, counted, fits, size, small, not_past)) ∙ ap (λ n. next + n) counted in
    let copied = c.in_ok-behind.ensures (subst (λ n. n ≤ length (drop next added)) (sym counted) fits) ∙
    ap (λ n. take n (drop next added)) counted in
    let at = at_place uses k own within c.index-uses-k.is in (
      each_more (IsGroupText parts document) uses c.loop-k.linked.items c.push.new.self.items k own _ at so_far.0
          (record {
            is_group = each_number (LinksGroup parts document) uses c.args.groups.now k own c.number_at.result each at
                c.number_at.ensures;
            are_added = subst (λ ks. AreLinked parts document AddedAttribute (added_terms own) ks) (sym copied) here.first;
          }) c.in_ok-push.ensures.items,
      subst (λ n. AreEach (LinksMention parts document) (added_mentions (drop (k + 1) uses)) (drop n added)) (sym further)
          here.behind,
      omega (arith, further, fits, size, not_past),
    )

pub returns : goal.returns
returns c = λ parts document each added.
    let past : length c.args.uses.now ≤ c.loop-k.k = omega (arith, c.loop-k-test.false) in
    each_done (IsGroupText parts document) c.args.uses.now c.loop-k.linked.items c.loop-k.k past
    (c.loop-k.invariant parts document each added).0
