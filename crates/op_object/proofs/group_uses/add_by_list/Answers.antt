-- The set has the identifiers of the list.
use Rattle.std.proofs.Common.{rules, ◌≡◌, List, OnOk, ap, ◌∙◌, subst}
use Rattle.std.specs.Prelude.{flat_map}
use Rattle.term_model.specs.declared.packages.PackageRec.{PackageRec}
use Rattle.term_model.specs.PresentPackages.{is_among, packages_by}
use Rattle.op_object.specs.GroupSets.{AddsUses, packages_stated_by}
use Rattle.op_object.proofs.PackageLaws.{stated_by_list}
use Rattle.op_object.proofs.group_uses.add_by_list.Goals as goal

pub returns : goal.returns
returns c =
    let records = c.args.records.now in
    let chosen = c.args.chosen.now in
    let classes = c.args.classes.now in
    let listed : c.as_slice.result.now ≡ chosen = search rules in
    let same : flat_map (packages_stated_by records c.in_ok-ids.ids) classes
    ≡ flat_map (packages_by records chosen) classes =
    stated_by_list records c.in_ok-ids.ids chosen classes
    (λ q. c.in_ok-ids.ensures q ∙ ap (λ ids. is_among ids q) listed) in
    subst
    (λ (packages : List PackageRec).
    OnOk c.add_classes.result
    (AddsUses c.args.asked.now (flat_map (λ (of_package : PackageRec). of_package.groups) packages)
    c.args.into.now.used c.add_classes.new.into.used c.args.into.now.members c.add_classes.new.into.members))
    same c.add_classes.ensures
