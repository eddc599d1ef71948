-- Tests whether identifiers and names are the same: X.501.
use Rattle.std.specs.Prelude.{ℕ, List, Bool, ◌==◌, ◌&&◌}
use Rattle.std.specs.Cmp.Lexicographic.{pointwise}
use Rattle.term_model.specs.declared.name.Rdn.{Rdn}

abbrev pub is_same_octets : List ℕ → List ℕ → Bool
is_same_octets = pointwise ◌==◌

abbrev pub is_same_oid : List ℕ → List ℕ → Bool
is_same_oid = pointwise ◌==◌

abbrev pub is_same_rdn : Rdn → Rdn → Bool
is_same_rdn a b = is_same_oid a.attribute b.attribute && is_same_octets a.value b.value

abbrev pub is_same_name : List Rdn → List Rdn → Bool
is_same_name = pointwise is_same_rdn
