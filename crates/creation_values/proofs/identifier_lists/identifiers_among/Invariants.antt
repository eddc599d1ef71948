-- The identifiers of the values so far.
use Rattle.std.proofs.Common.{◌≡◌, take}
use Rattle.std.specs.Prelude.{flat_map}
use Rattle.term_model.specs.Creation.{identifiers_of}
use Rattle.creation_values.proofs.identifier_lists.identifiers_among.Given as goal

abbrev pub invariant-loop-value : goal.invariant-loop-value
invariant-loop-value l = l.items.items ≡ flat_map identifiers_of (take l.value-index l.values)
