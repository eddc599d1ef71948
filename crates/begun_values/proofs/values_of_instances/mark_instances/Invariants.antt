-- The names of the instances so far are marked.
use Rattle.std.proofs.Common.{map, take}
use Rattle.gdmo_names.specs.PartTerms.{PartTerms}
use Rattle.gdmo_names.specs.PartViews.{instance_term}
use Rattle.gdmo_targets.specs.SectionTables.{IsInstanceTargets}
use Rattle.gdmo_types.specs.Linkages.{IsLinkage}
use Rattle.begun_values.specs.SectionValues.{GoesOn, InstanceFirsts}
use Rattle.begun_values.proofs.values_of_instances.mark_instances.Given as goal

abbrev pub invariant-loop-instance : goal.invariant-loop-instance
invariant-loop-instance l = (parts : PartTerms) → IsLinkage parts l.linkage →
    GoesOn (IsInstanceTargets parts l.linkage.templates.now) (InstanceFirsts parts)
    (map (instance_term l.section.document) (take l.instance-index l.instances)) l.targets l.at l.next l.initial.names
    l.names
