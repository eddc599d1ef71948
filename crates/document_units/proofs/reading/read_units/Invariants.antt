-- The units of the front of the document have been read.
use Rattle.std.proofs.Common.{◌-◌, length, map}
use Rattle.document_units.specs.UnitOutcome.{unit_term}
use Rattle.document_units.proofs.UnitRows.{Reached}
use Rattle.document_units.proofs.reading.read_units.Given as goal

abbrev pub invariant-loop-at : goal.invariant-loop-at
invariant-loop-at l = Reached l.tokens (map unit_term l.units.items) l.at

abbrev pub decreases-loop-at : goal.decreases-loop-at
decreases-loop-at l = length l.initial.tokens - l.at
