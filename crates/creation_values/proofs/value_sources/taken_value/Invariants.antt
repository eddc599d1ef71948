-- The rest has the same first attribute.
use Rattle.std.proofs.Common.{◌≡◌, drop}
use Rattle.std.specs.Prelude.{find}
use Rattle.term_model.specs.declared.object.Attribute.{Attribute}
use Rattle.term_model.specs.Comparing.{is_same_oid}
use Rattle.creation_values.proofs.value_sources.taken_value.Given as goal

abbrev pub invariant-loop-held : goal.invariant-loop-held
invariant-loop-held l =
    find (λ (held : Attribute). is_same_oid held.id l.id) (drop l.held-index l.held-items)
    ≡ find (λ (held : Attribute). is_same_oid held.id l.id) l.held-items
