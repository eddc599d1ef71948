-- The names of the rules so far are marked.
use Rattle.std.proofs.Common.{map, take}
use Rattle.gdmo_names.specs.PartTerms.{PartTerms}
use Rattle.gdmo_names.specs.PartViews.{rule_term}
use Rattle.gdmo_targets.specs.SectionTables.{IsRuleTargets}
use Rattle.gdmo_types.specs.Linkages.{IsLinkage}
use Rattle.begun_values.specs.SectionValues.{GoesOn, RuleFirsts}
use Rattle.begun_values.proofs.values_of_rules.mark_rules.Given as goal

abbrev pub invariant-loop-rule : goal.invariant-loop-rule
invariant-loop-rule l = (parts : PartTerms) → IsLinkage parts l.linkage →
    GoesOn (IsRuleTargets parts l.linkage.templates.now) (RuleFirsts parts)
    (map (rule_term l.section.document) (take l.rule-index l.rules)) l.targets l.at l.next l.initial.names l.names
