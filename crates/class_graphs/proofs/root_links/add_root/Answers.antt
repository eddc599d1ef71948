-- A ROOT, and an instance that is none.
use Rattle.std.proofs.Common.{◌∙◌, ◌∷◌, [], ap}
use Rattle.std.proofs.Math.Path.{subst}
use Rattle.link_graphs.specs.Leading.{target_lists}
use Rattle.reached_elements.specs.Linking.{GainsLinks, LinksAll}
use Rattle.gdmo_names.specs.FoundViews.{found_views}
use Rattle.class_graphs.specs.ClassLinks.{last_number}
use Rattle.class_graphs.proofs.RootLaws.{no_root_added, root_added}
use Rattle.class_graphs.proofs.root_links.add_root.Goals as goal

pub returns-in_ok-add_links : goal.returns-in_ok-add_links
returns-in_ok-add_links c = λ parts xs by is root.
    let last = c.last_number.ensures ∙ ap last_number c.as_slice.ensures.value in
    root_added parts xs by c.args.own.now is (root ∙ c.if-is_root.true)
    (subst (λ n. GainsLinks (LinksAll (c.args.own.now.class ∷ []) (n ∷ [])) (target_lists c.args.graph.now)
    (target_lists c.add_links.new.graph)) last c.in_ok-add_links.ensures)

pub returns-else-is_root : goal.returns-else-is_root
returns-else-is_root c = λ parts xs by is root. no_root_added parts (found_views xs) by
    (target_lists c.args.graph.now) (root ∙ c.if-is_root.false)
