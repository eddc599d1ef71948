-- What the rules of the classes so far name and may not.
use Rattle.std.proofs.Common.{◌≡◌, length}
use Rattle.std.specs.Prelude.{AllPairs}
use Rattle.gdmo_names.specs.FaultSets.{Notes}
use Rattle.gdmo_names.specs.FoundViews.{found_views}
use Rattle.gdmo_names.specs.InStep.{AreEach}
use Rattle.gdmo_names.specs.PartTerms.{PartTerms}
use Rattle.gdmo_names.specs.TargetTables.{AreTwo}
use Rattle.gdmo_targets.specs.SectionTables.{IsRuleTargets}
use Rattle.gdmo_targets.specs.StatedRules.{rule_terms}
use Rattle.gdmo_types.specs.Linkages.{IsLinkage}
use Rattle.class_graphs.specs.ClassGraphs.{IsGraph}
use Rattle.gdmo_rules.specs.NamingFaults.{row_lists}
use Rattle.gdmo_rules.proofs.StepNameLaws.{ClassesBefore}
use Rattle.gdmo_rules.proofs.step_names.note_classes.Given as goal

abbrev pub invariant-loop-class : goal.invariant-loop-class
invariant-loop-class l = (parts : PartTerms) → IsLinkage parts l.linkage →
    IsGraph parts (found_views l.linkage.templates.now) l.graph →
    AllPairs AreTwo (found_views l.linkage.templates.now) → rule_terms l.rules ≡ parts.rules →
    AreEach (IsRuleTargets parts l.linkage.templates.now) parts.rules l.targets →
    length (row_lists l.rows) ≡ length (found_views l.linkage.templates.now) →
    Notes (ClassesBefore parts (found_views l.linkage.templates.now) (row_lists l.rows) l.class)
    l.initial.faults.first l.faults.first
