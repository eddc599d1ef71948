-- The identifiers so far.
use Rattle.std.proofs.Common.{◌≡◌, map, take}
use Rattle.term_values.specs.Typed.TypedValue.{Identifier}
use Rattle.mib_opening.proofs.instance_asking.identifier_values.Given as goal

abbrev pub invariant-loop-id : goal.invariant-loop-id
invariant-loop-id l = l.items.items ≡ map Identifier (take l.id-index l.ids)
