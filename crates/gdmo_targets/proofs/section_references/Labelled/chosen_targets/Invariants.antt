use Rattle.std.proofs.Common.{[], map, take}
use Rattle.token_grammar.specs.declared.token.Token.{Token}
use Rattle.gdmo_names.specs.Mentions.Role.{ChosenPackage}
use Rattle.gdmo_names.specs.SectionFaults.{LabelFaults}
use Rattle.gdmo_targets.specs.SectionTables.{TellsLabel}
use Rattle.gdmo_names.specs.PartTerms.{PartTerms}
use Rattle.gdmo_targets.specs.SectionTables.{IsLabelled}
use Rattle.gdmo_names.proofs.InStepLaws.{AddsNoted}
use Rattle.gdmo_targets.proofs.section_references.Labelled.chosen_targets.Given as goal

abbrev pub invariant-loop-package : goal.invariant-loop-package
invariant-loop-package l = (parts : PartTerms) → IsLabelled parts l.self →
    AddsNoted (TellsLabel parts l.self.templates.now l.document ChosenPackage) (LabelFaults parts l.document ChosenPackage)
    (map (λ (x : Token). x) (take l.package-index l.packages)) [] l.targets.items l.initial.faults.first l.faults.first
