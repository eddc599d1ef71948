-- FirstNames: what a table by names holds: of what is told twice of one name the first.
use Rattle.std.specs.Prelude.{◌==◌, List, ℕ, Option, None, Some, option_map}
use Rattle.std.specs.Borrow.{Bor}
use Rattle.std.specs.Cmp.Lexicographic.{pointwise}
use Rattle.indexmap.specs.IndexMap.{IndexMap, get_by}

-- what a table has under a name
abbrev pub found : {V S : Type 0} → IndexMap (Bor (List ℕ)) V S → List ℕ → Option V
found table name = get_by (λ key. pointwise ◌==◌ name key.now) table

-- the same of a table of names
abbrev pub sources : {S : Type 0} → IndexMap (Bor (List ℕ)) (Bor (List ℕ)) S → List ℕ → Option (List ℕ)
sources table name = option_map (λ source. source.now) (found table name)

-- the first of two, where there is one
abbrev pub first_of : {X : Type 0} → Option X → Option X → Option X
first_of None next = next
first_of (Some x) next = Some x
