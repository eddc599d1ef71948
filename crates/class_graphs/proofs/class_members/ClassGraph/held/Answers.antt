-- What is reached of the graph.
use Rattle.std.proofs.Math.Path.{subst}
use Rattle.std.proofs.Common.{◌≡◌, ◌↔◌, true}
use Rattle.link_graphs.specs.Leading.{target_lists}
use Rattle.reached_elements.specs.Reaching.{AreTargets}
use Rattle.class_graphs.specs.ClassGraphs.{LackSome}
use Rattle.class_graphs.proofs.FactLaws.{held_told}
use Rattle.class_graphs.proofs.class_members.ClassGraph.held.Goals as goal

pub returns : goal.returns
returns c = λ parts views x g apart at.
    let graph = c.args.self.now in
    let above = c.in_ok-above.above in
    let packages = c.in_ok-packages.packages in
    let attributes = c.in_ok-attributes.attributes in
    let classes = c.as_slice-classes.ensures.value in
    held_told views apart parts graph g c.args.class x at above.marks packages.marks above.elements.items
    packages.elements.items c.in_ok-above.ensures
    (subst (λ xs. AreTargets (target_lists graph.packages.links) xs packages.marks packages.elements.items)
    classes c.in_ok-packages.ensures)
    (record { attributes = attributes; has_missing = c.in_ok-has_missing.has_missing })
    (subst (λ xs. AreTargets (target_lists graph.attributes.links) xs attributes.marks
    attributes.elements.items) c.as_slice-2.ensures.value c.in_ok-attributes.ensures)
    (subst (λ xs. (c.in_ok-has_missing.has_missing ≡ true) ↔ LackSome graph above.elements.items xs)
    c.as_slice.ensures.value (subst (λ xs. (c.in_ok-has_missing.has_missing ≡ true) ↔ LackSome graph xs
    c.as_slice.result.now) classes c.in_ok-has_missing.ensures))
