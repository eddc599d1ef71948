-- To the templates that are named, and to itself where one isn't there.
use Rattle.std.proofs.Common.{◌≡◌, ◌∷◌, [], Some}
use Rattle.std.proofs.Math.Path.{subst}
use Rattle.link_graphs.specs.Leading.{target_lists}
use Rattle.reached_elements.specs.Linking.{GainsLinks, LinksAll}
use Rattle.gdmo_names.specs.FoundViews.{found_views}
use Rattle.gdmo_names.specs.Roles.{role_term}
use Rattle.gdmo_types.specs.RoleTargets.{ListsNone}
use Rattle.class_graphs.specs.NamedLinks.{AddsLinks}
use Rattle.class_graphs.proofs.NamedLaws.{lost_added, role_added, role_told}
use Rattle.class_graphs.proofs.role_links.add_role.Goals as goal

pub returns-clause-links : goal.returns-clause-links
returns-clause-links c = λ parts by is at.
    let xs = c.args.linkage.now.templates.now in
    let n = c.args.number in
    let role = role_term c.args.role in
    let numbers = c.in_ok-targets.targets.items in
    role_added parts xs n by role numbers at (role_told parts xs n by role numbers at
    (λ found there. c.in_ok-targets.ensures.leads parts found is.are_found is.are_targets there))
    (subst (λ ns. GainsLinks (LinksAll (Some n ∷ []) ns) (target_lists c.args.own.now.links)
    (target_lists c.add_links.new.graph)) c.as_slice.ensures.value c.in_ok-add_links.ensures)

pub returns-clause-lost : goal.returns-clause-lost
returns-clause-lost c = λ parts by is at.
    let xs = c.args.linkage.now.templates.now in
    let n = c.args.number in
    let role = role_term c.args.role in
    let numbers = c.in_ok-targets.targets.items in
    lost_added parts xs by role numbers (role_told parts xs n by role numbers at
    (λ found there. c.in_ok-targets.ensures.leads parts found is.are_found is.are_targets there))
    (subst (λ ns. AddsLinks (found_views xs) (λ one other. (by ≡ one) × (by ≡ other) × ListsNone ns)
    (target_lists c.args.own.now.lost) (target_lists c.add_lost.new.graph)) c.as_slice-2.ensures.value
    (c.in_ok-add_lost.ensures (found_views xs) by at))
