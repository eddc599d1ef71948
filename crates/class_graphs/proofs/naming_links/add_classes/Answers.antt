-- The subordinate class to the attribute.
use Rattle.std.proofs.Math.Path.{subst}
use Rattle.link_graphs.specs.Leading.{target_lists}
use Rattle.reached_elements.specs.Linking.{GainsLinks, LinksAll}
use Rattle.gdmo_names.specs.Mentions.Role.{NamingAttribute, SubordinateClass}
use Rattle.class_graphs.proofs.NamedLaws.{classes_added, role_told}
use Rattle.class_graphs.proofs.naming_links.add_classes.Goals as goal

pub returns : goal.returns
returns c = λ parts by is at.
    let xs = c.args.linkage.now.templates.now in
    let n = c.args.number in
    let classes = c.in_ok-classes.classes.items in
    let attributes = c.in_ok-attributes.attributes.items in
    classes_added parts xs by classes attributes (role_told parts xs n by SubordinateClass classes at
    (λ found there. c.in_ok-classes.ensures.leads parts found is.are_found is.are_targets there))
    (role_told parts xs n by NamingAttribute attributes at
    (λ found there. c.in_ok-attributes.ensures.leads parts found is.are_found is.are_targets there))
    (subst (λ ns. GainsLinks (LinksAll classes ns) (target_lists c.args.graph.now)
    (target_lists c.add_links.new.graph)) c.as_slice-2.ensures.value
    (subst (λ ns. GainsLinks (LinksAll ns c.as_slice-2.result.now) (target_lists c.args.graph.now)
    (target_lists c.add_links.new.graph)) c.as_slice.ensures.value c.in_ok-add_links.ensures))
