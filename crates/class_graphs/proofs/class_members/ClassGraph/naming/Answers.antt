-- What is reached of the graph.
use Rattle.std.proofs.Math.Path.{subst}
use Rattle.link_graphs.specs.Leading.{target_lists}
use Rattle.reached_elements.specs.Reaching.{AreReached, AreTargets}
use Rattle.class_graphs.proofs.FactLaws.{naming_told}
use Rattle.class_graphs.proofs.class_members.ClassGraph.naming.Goals as goal

pub returns : goal.returns
returns c = λ parts views x g apart at.
    let graph = c.args.self.now in
    let below = c.in_ok-below.below in
    let around = c.in_ok-around.around in
    let own = c.in_ok-own.own in
    let under = c.in_ok-below-2.below in
    let classes = c.as_slice-classes.ensures.value in
    naming_told views apart parts graph g c.args.class x at below.marks around.marks below.elements.items
    around.elements.items c.in_ok-below.ensures
    (subst (λ xs. AreReached (target_lists graph.superclasses.links) xs around.marks around.elements.items)
    classes c.in_ok-around.ensures) (record { own = own; below = under })
    (subst (λ xs. AreTargets (target_lists graph.naming) xs own.marks own.elements.items) classes
    c.in_ok-own.ensures)
    (subst (λ xs. AreTargets (target_lists graph.naming_below) xs under.marks under.elements.items)
    c.as_slice.ensures.value c.in_ok-below-2.ensures)
