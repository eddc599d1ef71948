-- Places: where the first record with an identifier stands in its list (X.722, REGISTERED AS).

use Rattle.std.specs.Prelude.{ℕ, ◌≡◌, List, Option, Some, None, cond}
use Rattle.std.specs.BTreeMap.{BTreeMap, get}
use Rattle.std.specs.Cmp.Lexicographic.{slice_cmp}
use Rattle.std.specs.List.{position_from}
use Rattle.std.specs.Ordering.{nat_cmp}
use Rattle.term_model.specs.Comparing.{is_same_oid}

-- under each identifier stands the place of the first of these that is it
abbrev pub HasPlaces : BTreeMap (List ℕ) ℕ → List (List ℕ) → Type 0
HasPlaces places ids = (q : List ℕ) → get (slice_cmp nat_cmp) places q ≡ position_from (λ id. is_same_oid id q) 0 ids

-- the place of an identifier once another one has a place too: the former one, where it had one
abbrev pub place_with : List ℕ → ℕ → List ℕ → Option ℕ → Option ℕ
place_with id place q (Some former) = Some former
place_with id place q None = cond (is_same_oid id q) (Some place) None
