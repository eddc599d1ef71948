-- The order of the lines of a report: by rising identifier, and by rising octets where texts are told apart; each once.
-- An identifier stands before another one where its first arc that differs is less, and before those that it begins:
-- docs/PROFILE.md, section 19.
use Rattle.std.specs.Prelude.{ℕ, List}
use Rattle.std.specs.List.{dedup}
use Rattle.term_values.specs.Rearranged.{rising}
use Rattle.term_model.specs.Comparing.{is_same_oid}

-- identifiers, or texts, in rising order, each once
abbrev pub in_order : List (List ℕ) → List (List ℕ)
in_order ids = dedup is_same_oid (rising ids)
