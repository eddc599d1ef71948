-- From the last one that was seen on, the rest rise where all do.
use Rattle.std.proofs.Common.{◌≡◌, drop}
use Rattle.attribute_rules.specs.Places.{rise_from}
use Rattle.attribute_rules.proofs.places.rise_from.Given as goal

abbrev pub invariant-loop-attribute : goal.invariant-loop-attribute
invariant-loop-attribute l =
    rise_from l.first l.attributes ≡ rise_from l.before (drop l.attribute-index l.attributes)
