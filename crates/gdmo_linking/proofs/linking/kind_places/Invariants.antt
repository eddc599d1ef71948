use Rattle.std.proofs.Common.{take}
use Rattle.gdmo_names.specs.FoundViews.{found_views}
use Rattle.gdmo_linking.specs.Linkers.{ArePlaces}
use Rattle.gdmo_linking.proofs.CountLaws.{AreCounts}
use Rattle.gdmo_linking.proofs.linking.kind_places.Given as goal

abbrev pub invariant-loop-found : goal.invariant-loop-found
invariant-loop-found l = AreCounts (take l.found-index (found_views l.templates)) l.counts
    × ArePlaces (take l.found-index (found_views l.templates)) l.places.items
