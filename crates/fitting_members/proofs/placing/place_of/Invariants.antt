-- The place lies between the two ends.
use Rattle.std.proofs.Common.{◌-◌}
use Rattle.term_values.specs.Written.{der}
use Rattle.fitting_members.proofs.PlaceLaws.{IsSearched}
use Rattle.fitting_members.proofs.placing.place_of.Given as goal

abbrev pub invariant-search : goal.invariant-search
invariant-search l = IsSearched (der l.member) l.encoding l.items l.low l.high

abbrev pub decreases-search : goal.decreases-search
decreases-search l = l.high - l.low
