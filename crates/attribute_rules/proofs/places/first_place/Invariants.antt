-- None of those so far has the identifier.
use Rattle.attribute_rules.proofs.PlaceLaws.{NoneWithin}
use Rattle.attribute_rules.proofs.places.first_place.Given as goal

abbrev pub invariant-loop-place : goal.invariant-loop-place
invariant-loop-place l = NoneWithin l.attributes l.id 0 l.place
