use Rattle.std.proofs.Common.{◌≡◌, ◌++◌, map, take}
use Rattle.asn1_names.specs.AssignmentNumbers.{numbered_from}
use Rattle.asn1_names.specs.TermViews.{assignment_term}
use Rattle.gdmo_linking.specs.Linkers.{place_of}
use Rattle.gdmo_linking.proofs.linking.push_places.Given as goal

abbrev pub invariant-loop-place : goal.invariant-loop-place
invariant-loop-place l = l.places.items ≡ l.initial.places.items ++
    map place_of (numbered_from l.home 0 (map assignment_term (take l.place l.own)))
