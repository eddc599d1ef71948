-- What the name bindings, and the instances before a place, name.
use Rattle.std.proofs.Common.{◌≡◌, ◌⊎◌, List, false}
use Rattle.std.specs.Prelude.{flat_map}
use Rattle.link_graphs.specs.Leading.{target_lists}
use Rattle.gdmo_names.specs.FoundViews.{found_views}
use Rattle.gdmo_names.specs.InStep.{AreEach}
use Rattle.gdmo_names.specs.PartTerms.{PartTerms}
use Rattle.gdmo_names.specs.PartViews.{section_instances}
use Rattle.gdmo_names.specs.declared.found.Found.{Found}
use Rattle.gdmo_targets.specs.SectionTables.{IsInstanceTargets}
use Rattle.class_graphs.specs.ClassLinks.{NamesBy, NamesRoot}
use Rattle.class_graphs.specs.NamedLinks.{AreLinks, ByAny, ByBefore}
use Rattle.class_graphs.proofs.root_links.add_roots.Given as goal

abbrev pub invariant-loop-place : goal.invariant-loop-place
invariant-loop-place l = (parts : PartTerms) (xs : List Found) →
    parts.instances ≡ flat_map section_instances l.sections →
    AreEach (IsInstanceTargets parts xs) parts.instances l.instances →
    AreLinks (found_views xs) (ByAny (found_views xs) (NamesBy parts false)) (target_lists l.initial.graph) →
    AreLinks (found_views xs) (λ one other. ByAny (found_views xs) (NamesBy parts false) one other
    ⊎ ByBefore parts.instances (NamesRoot parts) l.place one other) (target_lists l.graph)
