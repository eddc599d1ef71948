use Rattle.std.proofs.Common.{[], map, take}
use Rattle.gdmo_names.specs.PartViews.{pair_term}
use Rattle.gdmo_names.specs.Roles.{role_term}
use Rattle.gdmo_names.specs.SectionFaults.{FaultsOfPair}
use Rattle.gdmo_targets.specs.SectionTables.{TellsPair}
use Rattle.gdmo_names.specs.PartTerms.{PartTerms}
use Rattle.gdmo_targets.specs.SectionTables.{IsLabelled}
use Rattle.gdmo_names.proofs.InStepLaws.{AddsNoted}
use Rattle.gdmo_targets.proofs.section_references.Labelled.pair_targets.Given as goal

abbrev pub invariant-loop-pair : goal.invariant-loop-pair
invariant-loop-pair l = (parts : PartTerms) → IsLabelled parts l.self →
    AddsNoted (TellsPair parts l.self.templates.now l.document (role_term l.role)) (FaultsOfPair parts l.document (role_term l.role))
    (map pair_term (take l.pair-index l.pairs)) [] l.targets.items l.initial.faults.first l.faults.first
