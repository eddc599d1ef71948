-- The places of the properties so far.
use Rattle.std.proofs.Common.{take}
use Rattle.term_model.specs.Places.{HasPlaces}
use Rattle.attribute_rules.specs.PropertyPlaces.{attributes_of}
use Rattle.attribute_rules.proofs.property_places.places_among.Given as goal

abbrev pub invariant-loop-place : goal.invariant-loop-place
invariant-loop-place l = HasPlaces l.places (attributes_of (take l.place l.properties))
