-- What the rules so far name and may not.
use Rattle.std.proofs.Common.{◌≡◌, map, take}
use Rattle.gdmo_names.specs.FaultSets.{AnyOf, Notes}
use Rattle.gdmo_names.specs.FoundViews.{found_views}
use Rattle.gdmo_names.specs.InStep.{AreEach}
use Rattle.gdmo_names.specs.PartTerms.{Placed, PartTerms}
use Rattle.gdmo_targets.specs.SectionTables.{IsRuleTargets}
use Rattle.gdmo_targets.specs.StatedRules.{rule_terms}
use Rattle.gdmo_types.specs.Linkages.{IsLinkage}
use Rattle.class_graphs.specs.ClassGraphs.{TellsFacts}
use Rattle.gdmo_rules.specs.NamingFaults.{NamingFaultsAt}
use Rattle.gdmo_rules.proofs.step_names.note_row.Given as goal

abbrev pub invariant-loop-place : goal.invariant-loop-place
invariant-loop-place l = (parts : PartTerms) (class : Placed) → IsLinkage parts l.linkage →
    TellsFacts parts (found_views l.linkage.templates.now) class l.facts → rule_terms l.rules ≡ parts.rules →
    AreEach (IsRuleTargets parts l.linkage.templates.now) parts.rules l.targets →
    Notes (AnyOf (NamingFaultsAt parts class) (map (λ k. k) (take l.place-index l.places))) l.initial.faults.first
    l.faults.first
