-- A table of two operations, computed: 1 writes an object and holds its whole path, 2 waits to write all below its
-- superior.
use Rattle.std.specs.Prelude.{◌≡◌, ℕ, List, [], ◌∷◌, true, None, Some, refl}
use Rattle.term_model.specs.declared.name.Rdn.{Rdn}
use Rattle.term_model.proofs.ExampleNetwork.{id_oid}
use Rattle.lock_model.specs.declared.lock_name.Mode.TheVariants as modes
use Rattle.lock_model.specs.LockPath.{own, tree, way_to}
use Rattle.lock_model.specs.Holdings.{bars}
use Rattle.subtree_locks.specs.declared.grant.Grant.TheVariants as grant
use Rattle.subtree_locks.specs.declared.lock_table.Row.{Row}
use Rattle.subtree_locks.specs.Grants.{left_by}
use Rattle.subtree_locks.specs.LockRows.{LockRows, entered_row, held_by, holding, path_now, row_of}

abbrev part : ℕ → Rdn
part n = record { attribute = id_oid; value = 2 ∷ 1 ∷ n ∷ [] }

abbrev five : List Rdn
five = part 5 ∷ []

abbrev five_six : List Rdn
five_six = part 5 ∷ part 6 ∷ []

abbrev one : Row
one = record { path = way_to (record { unit = own five_six; writing = true }); end = None; held = 4 }

abbrev two : Row
two = record { path = way_to (record { unit = tree five; writing = true }); end = None; held = 1 }

abbrev rows : LockRows
rows = (1, one) ∷ (2, two) ∷ []

two_is_there : row_of rows 2 ≡ Some two
two_is_there = refl

three_is_not : row_of rows 3 ≡ None
three_is_not = refl

two_holds : held_by two ≡ (tree [], modes.IX) ∷ []
two_holds = refl

-- 2 wants X on the Tree of 5, on which 1 holds IX
one_bars : bars (tree five, modes.X) (holding 1 one) ≡ true
one_bars = refl

-- where the path of 1 ends at its second place, that place has the mode of the last one
ends_before : path_now (record one { end = Some 1 }) ≡ (tree [], modes.IX) ∷ (tree five, modes.X) ∷ []
ends_before = refl

-- one place more is held
then_holds : left_by rows 2 two (grant.Held 1) ≡ (1, one) ∷ (2, record two { held = 2 }) ∷ []
then_holds = refl

stays_blocked : left_by rows 2 two (grant.Blocked 1 1) ≡ rows
stays_blocked = refl

enters : entered_row ((tree [], modes.S) ∷ []) ≡ record { path = (tree [], modes.S) ∷ []; end = None; held = 0 }
enters = refl
