-- The groups, where they are stated.
use Rattle.std.proofs.Common.{◌≡◌, ap, sym}
use Rattle.std.proofs.Math.Path.{subst}
use Rattle.gdmo_linking.specs.Linkers.{LinksMention}
use Rattle.gdmo_names.specs.ClassViews.{group_rows, group_terms}
use Rattle.gdmo_names.specs.FoundViews.{body_term}
use Rattle.gdmo_names.specs.InStep.{AreEach}
use Rattle.gdmo_names.specs.Mentions.Role.{AddedAttribute, PackageGroup}
use Rattle.linked_packages.specs.LinkedPackages.{AreGroupUses}
use Rattle.linked_packages.specs.PackageTexts.{IsGroupText, LinksGroup, added_mentions}
use Rattle.linked_packages.proofs.PackageLaws.{row_heads, rows_behind}
use Rattle.linked_packages.proofs.PackageTextLaws.{added_named, are_groups, group_links, groups_added, groups_named}
use Rattle.linked_packages.proofs.linking_packages.package_groups.Goals as goal

pub returns-in_ok-linked_groups-in-Some : goal.returns-in_ok-linked_groups-in-Some
returns-in_ok-linked_groups-in-Some c = λ parts is body.
    let document = c.args.found.now.document in
    let own = c.in-Some.uses.items in
    let linked = c.in_ok-linked_groups-in-Some.field-0.items in
    let groups = c.in_ok-groups-in-Some.groups.items in
    let added = c.in_ok-added-in-Some.added.items in
    let view : group_rows c.args.text.now.groups ≡ group_terms own = ap group_rows c.in-Some.is in
    let each = group_links parts document own groups
    (subst (λ g. AreEach (LinksMention parts document) (row_heads PackageGroup g) groups) view
    (groups_named parts document (body_term c.args.found.now.body) c.args.text.now groups body
    (c.in_ok-groups-in-Some.ensures parts is))) in
    let also = subst (λ xs. AreEach (LinksMention parts document) xs added) (groups_added own)
    (subst (λ g. AreEach (LinksMention parts document) (rows_behind AddedAttribute g) added) view
    (added_named parts document (body_term c.args.found.now.body) c.args.text.now added body
    (c.in_ok-added-in-Some.ensures parts is))) in
    subst (λ g. AreGroupUses parts document g linked) (sym view)
    (are_groups parts document own linked
    (subst (λ xs. AreEach (IsGroupText parts document) xs linked) c.as_slice.ensures.value
    (c.in_ok-linked_groups-in-Some.ensures parts document
    (subst (λ xs. AreEach (LinksGroup parts document) xs c.as_slice-in-Some.result.now) (sym c.as_slice.ensures.value)
    (subst (λ ys. AreEach (LinksGroup parts document) own ys) (sym c.as_slice-in-Some.ensures.value) each))
    (subst (λ xs. AreEach (LinksMention parts document) (added_mentions xs) c.as_slice-in-Some-2.result.now)
    (sym c.as_slice.ensures.value)
    (subst (λ ys. AreEach (LinksMention parts document) (added_mentions own) ys)
    (sym c.as_slice-in-Some-2.ensures.value) also)))))
