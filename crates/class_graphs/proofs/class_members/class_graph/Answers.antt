-- The parts of the graph.
use Rattle.class_graphs.proofs.class_members.class_graph.Goals as goal

pub returns : goal.returns
returns c = λ parts is are each. record {
  are = is.are_found.all;
  superclasses = c.in_ok-superclasses.ensures parts is;
  packages = c.in_ok-packages.ensures parts is;
  attributes = c.in_ok-attributes.ensures parts is;
  subclasses = c.in_ok-subclasses.ensures;
  naming = c.in_ok-add_roots.ensures parts c.args.linkage.now.templates.now are each
      (c.in_ok-naming.ensures parts is);
  naming_below = c.in_ok-naming_below.ensures parts is;
}
