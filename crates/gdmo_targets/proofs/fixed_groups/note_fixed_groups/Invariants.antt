use Rattle.gdmo_names.specs.FaultSets.{Notes}
use Rattle.gdmo_names.specs.FoundViews.{found_term}
use Rattle.gdmo_names.specs.InStep.{AreEach}
use Rattle.gdmo_names.specs.Mentions.{template_mentions}
use Rattle.gdmo_names.specs.PartTerms.{PartTerms}
use Rattle.gdmo_names.specs.TargetTables.{HasMentions, TellsMention}
use Rattle.gdmo_targets.specs.GroupSteps.{GroupsBefore}
use Rattle.gdmo_targets.proofs.fixed_groups.note_fixed_groups.Given as goal

abbrev pub invariant-loop-place : goal.invariant-loop-place
invariant-loop-place l = (parts : PartTerms) → HasMentions l.templates l.found →
    AreEach (TellsMention parts l.templates l.found.document) (template_mentions (found_term l.found)) l.targets →
    Notes (GroupsBefore parts l.found.document (template_mentions (found_term l.found)) l.place)
    l.initial.faults.first l.faults.first
