use Rattle.std.proofs.Common.{◌-◌}
use Rattle.mo_list.specs.Places.{is_past}
use Rattle.mo_list.proofs.PlaceLaws.{IsSearched}
use Rattle.mo_list.proofs.places.cut_at.Given as goal

-- the place lies between the two ends, and the visits so far are those of as many halves
abbrev pub invariant-search : goal.invariant-search
invariant-search g l = IsSearched (is_past l.below l.name) l.entries l.fn.steps l.low l.high l.steps

abbrev pub decreases-search : goal.decreases-search
decreases-search g l = l.high - l.low
