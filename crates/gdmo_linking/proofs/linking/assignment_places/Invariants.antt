use Rattle.std.proofs.Common.{map, take}
use Rattle.asn1_names.specs.TermViews.{module_term}
use Rattle.gdmo_linking.specs.Linkers.{ArePlacesOf}
use Rattle.gdmo_linking.proofs.linking.assignment_places.Given as goal

abbrev pub invariant-loop-home : goal.invariant-loop-home
invariant-loop-home l = ArePlacesOf (map module_term (take l.home l.modules)) l.places.items
