-- What the types at the places so far leave.
use Rattle.std.proofs.Common.{map, []}
use Rattle.std.specs.Map.Iter.{deref}
use Rattle.term_values.specs.Syntaxes.{TypeSyntax}
use Rattle.permitted_bounds.specs.LeftBounds.{IsLeft}
use Rattle.property_faults.specs.TableFaults.{types_at}
use Rattle.property_faults.proofs.property_faults.narrowed.Given as goal

abbrev pub invariant-loop-place : goal.invariant-loop-place
invariant-loop-place l = (syntax : TypeSyntax) → IsLeft syntax [] l.initial.left →
    IsLeft syntax (types_at l.table (map deref l.yielded)) l.left
