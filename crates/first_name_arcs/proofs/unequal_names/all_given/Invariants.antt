-- The arcs of the definers so far.
use Rattle.std.proofs.Common.{take}
use Rattle.gdmo_first_names.specs.DefinedNames.{AreDefiners}
use Rattle.gdmo_first_names.specs.ReadModules.{AreWhole, HasModules}
use Rattle.gdmo_names.specs.InStep.{AreEach}
use Rattle.gdmo_names.specs.PartTerms.{PartTerms}
use Rattle.identifier_arcs.specs.KnownArcs.{AreKnown}
use Rattle.first_name_arcs.specs.BegunFirst.{AreBegun}
use Rattle.first_name_arcs.specs.UnequalNames.{TellsGiven}
use Rattle.first_name_arcs.proofs.unequal_names.all_given.Given as goal

abbrev pub invariant-loop-number : goal.invariant-loop-number
invariant-loop-number l = (parts : PartTerms) → HasModules parts l.tables → AreKnown parts l.known → AreWhole parts →
    AreBegun parts l.begun → AreDefiners parts l.definers →
    AreEach (TellsGiven parts l.known.numbers.lists) (take l.number-index l.definers) l.given.items
