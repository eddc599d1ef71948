use Rattle.std.proofs.Common.{map, take}
use Rattle.std.specs.Prelude.{flat_map}
use Rattle.gdmo_names.specs.DocumentTemplates.{placed_templates}
use Rattle.gdmo_names.specs.FindingSteps.{AddsPlaced}
use Rattle.gdmo_names.specs.PartViews.{class_placed}
use Rattle.gdmo_names.proofs.finding_classes.find_classes.Given as goal

abbrev pub invariant-loop-template : goal.invariant-loop-template
invariant-loop-template l = AddsPlaced l.initial.finding.templates.items l.finding.templates.items
    (flat_map placed_templates (map class_placed (take l.template-index l.templates)))
