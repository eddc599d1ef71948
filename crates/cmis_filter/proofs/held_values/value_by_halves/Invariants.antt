use Rattle.std.proofs.Common.{length}
use Rattle.term_model.specs.FilterTruth.{value_in}
use Rattle.cmis_filter.proofs.HalvesLaws.{IsLeft}
use Rattle.cmis_filter.proofs.held_values.value_by_halves.Given as goal

abbrev pub invariant-halves : goal.invariant-halves
invariant-halves l = IsLeft l.rest l.id (value_in l.attributes l.id) (length l.attributes)

abbrev pub decreases-halves : goal.decreases-halves
decreases-halves l = length l.rest
