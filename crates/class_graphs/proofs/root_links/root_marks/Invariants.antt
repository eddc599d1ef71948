-- The marks of the instances of the sections before a place.
use Rattle.std.proofs.Common.{◌≡◌, map, take}
use Rattle.std.specs.Prelude.{flat_map}
use Rattle.gdmo_names.specs.PartViews.{section_instances}
use Rattle.class_graphs.proofs.RootLaws.{root_of}
use Rattle.class_graphs.proofs.root_links.root_marks.Given as goal

abbrev pub invariant-loop-section : goal.invariant-loop-section
invariant-loop-section l =
    l.roots.items ≡ map root_of (flat_map section_instances (take l.section-index l.sections))
