-- The names of the sections so far are marked.
use Rattle.std.proofs.Common.{take}
use Rattle.std.specs.Prelude.{flat_map}
use Rattle.gdmo_names.specs.PartTerms.{PartTerms}
use Rattle.gdmo_names.specs.PartViews.{section_instances}
use Rattle.gdmo_targets.specs.SectionTables.{IsInstanceTargets}
use Rattle.gdmo_types.specs.Linkages.{IsLinkage}
use Rattle.begun_values.specs.SectionValues.{GoesOn, InstanceFirsts}
use Rattle.begun_values.proofs.values_of_instances.mark_all_instances.Given as goal

abbrev pub invariant-loop-section : goal.invariant-loop-section
invariant-loop-section l = (parts : PartTerms) → IsLinkage parts l.linkage →
    GoesOn (IsInstanceTargets parts l.linkage.templates.now) (InstanceFirsts parts)
    (flat_map section_instances (take l.section-index l.sections)) l.targets 0 l.next l.initial.names l.names
