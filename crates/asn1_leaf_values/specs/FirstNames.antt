-- FirstNames: what a table of first names says of each name (X.680, section 32).
use Rattle.std.specs.Prelude.{◌==◌, List, ℕ, Option, None, Some, if◌then◌else◌}
use Rattle.std.specs.Borrow.{Bor}
use Rattle.std.specs.Cmp.Lexicographic.{pointwise}
use Rattle.indexmap.specs.IndexMap.{IndexMap, get_by}
use Rattle.asn1_leaf_values.specs.Arcs.{NamedArcs}

-- the arcs that a table has for a name
abbrev pub arcs_named : {S : Type 0} → IndexMap (Bor (List ℕ)) (List ℕ) S → NamedArcs
arcs_named table name = get_by (λ key. pointwise ◌==◌ name key.now) table

-- the first of two, where there is one
abbrev pub first_of : Option (List ℕ) → Option (List ℕ) → Option (List ℕ)
first_of None next = next
first_of (Some x) next = Some x

-- one more name, unless it is there
abbrev pub with_name : NamedArcs → List ℕ → List ℕ → NamedArcs
with_name names name arcs other =
    first_of (names other) (if pointwise ◌==◌ name other then Some arcs else None)
