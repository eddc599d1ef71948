-- OneRest: ranges leave one form of bounds of others (X.680, sections 49 to 51).
use Rattle.std.specs.Prelude.{◌≡◌, List, ℤ}
use Rattle.term_values.specs.Syntaxes.{Bounds}
use Rattle.range_sets.specs.RangeSets.{Leaves}

abbrev pub OneRestIsLeft : Type 0
OneRestIsLeft = (before after other : Bounds) (ranges : List (ℤ × ℤ)) → Leaves before ranges after →
    Leaves before ranges other → after ≡ other
