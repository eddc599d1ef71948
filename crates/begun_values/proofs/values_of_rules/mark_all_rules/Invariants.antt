-- The names of the sections so far are marked.
use Rattle.std.proofs.Common.{take}
use Rattle.std.specs.Prelude.{flat_map}
use Rattle.gdmo_names.specs.PartTerms.{PartTerms}
use Rattle.gdmo_names.specs.PartViews.{section_rules}
use Rattle.gdmo_targets.specs.SectionTables.{IsRuleTargets}
use Rattle.gdmo_types.specs.Linkages.{IsLinkage}
use Rattle.begun_values.specs.SectionValues.{GoesOn, RuleFirsts}
use Rattle.begun_values.proofs.values_of_rules.mark_all_rules.Given as goal

abbrev pub invariant-loop-section : goal.invariant-loop-section
invariant-loop-section l = (parts : PartTerms) → IsLinkage parts l.linkage →
    GoesOn (IsRuleTargets parts l.linkage.templates.now) (RuleFirsts parts)
    (flat_map section_rules (take l.section-index l.sections)) l.targets 0 l.next l.initial.names l.names
