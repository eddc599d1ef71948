use Rattle.std.proofs.Common.{take}
use Rattle.gdmo_names.specs.FaultSets.{MentionFaults}
use Rattle.gdmo_names.specs.FoundViews.{AreLabels, AreTemplates}
use Rattle.gdmo_names.specs.PartTerms.{PartTerms}
use Rattle.gdmo_names.specs.TargetTables.{IsMention, TellsMention}
use Rattle.gdmo_names.proofs.InStepLaws.{MadeOf}
use Rattle.gdmo_targets.proofs.labels.own_targets.Given as goal

abbrev pub invariant-loop-mention : goal.invariant-loop-mention
invariant-loop-mention l = (parts : PartTerms) → AreTemplates parts l.templates → AreLabels parts l.templates l.labels →
    MadeOf (IsMention l.templates l.found.document) (TellsMention parts l.templates l.found.document)
    (MentionFaults parts l.found.document) (take l.mention-index l.found.mentions.items) l.own.items
    l.initial.faults.first l.faults.first
