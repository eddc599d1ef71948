-- As many tables as the loop went round, all of them empty.
use Rattle.std.proofs.Common.{◌≡◌, ℕ, [], Some, length}
use Rattle.std.specs.Prelude.{slice_get}
use Rattle.joined_statements.specs.JoinedStatements.{Attributes}
use Rattle.joined_properties.proofs.inheriting.Inheriting.none_joined.Given as goal

abbrev pub invariant-loop : goal.invariant-loop
invariant-loop l = (length l.known.items ≡ l.counter)
    × ((k : ℕ) (table : Attributes) → slice_get l.known.items k ≡ Some table → table.entries ≡ [])
