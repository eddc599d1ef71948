-- The rest has the same first member.
use Rattle.std.proofs.Common.{◌≡◌, drop}
use Rattle.std.specs.Prelude.{find}
use Rattle.term_model.specs.CreateValues.{gives}
use Rattle.creation_values.proofs.value_sources.giver.Given as goal

abbrev pub invariant-loop-one : goal.invariant-loop-one
invariant-loop-one l = find (gives l.id) (drop l.one-index l.given) ≡ find (gives l.id) l.given
