-- The units of the front of the document have been gathered.
use Rattle.std.proofs.Common.{◌-◌, length}
use Rattle.document_parts.proofs.GatheringLaws.{IsGathered}
use Rattle.document_parts.proofs.gathering.gather_units.Given as goal

abbrev pub invariant-loop-at : goal.invariant-loop-at
invariant-loop-at l = IsGathered l.tokens l.document l.initial.parts l.parts l.at

abbrev pub decreases-loop-at : goal.decreases-loop-at
decreases-loop-at l = length l.initial.tokens - l.at
