-- The marks of the instances before a place.
use Rattle.std.proofs.Common.{◌≡◌, ◌++◌, map, take}
use Rattle.gdmo_names.specs.PartViews.{instance_term}
use Rattle.class_graphs.proofs.RootLaws.{root_of}
use Rattle.class_graphs.proofs.root_links.add_section.Given as goal

abbrev pub invariant-loop-instance : goal.invariant-loop-instance
invariant-loop-instance l = l.roots.items ≡ l.initial.roots.items
    ++ map root_of (map (instance_term l.section.document) (take l.instance-index l.section.instances.items))
