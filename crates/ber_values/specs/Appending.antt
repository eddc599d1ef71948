-- What was appended where something was read.
use Rattle.std.specs.Prelude.{ℕ, List, [], ◌++◌, ◌==◌, Bool, Option, None, Some, option_map, if◌then◌else◌}
use Rattle.term_values.specs.LeafReading.{bit_segments_in, no_trees}
use Rattle.term_values.specs.Tree.{TreeValues}

-- the octets that were there, and those that were found
abbrev pub appended : List ℕ → Option (List ℕ) → Option (List ℕ)
appended old found = option_map (λ octets. old ++ octets) found

-- the octets that are there, where all was read
abbrev pub kept_where : Bool → List ℕ → Option (List ℕ)
kept_where whole new = if whole then Some new else None

abbrev pub bits_appended : List ℕ → Option (List ℕ × ℕ) → Option (List ℕ × ℕ)
bits_appended old found = option_map (λ (bits : List ℕ × ℕ). (old ++ bits.0, bits.1)) found

abbrev pub bits_kept : List ℕ → Option ℕ → Option (List ℕ × ℕ)
bits_kept new unused = option_map (λ n. (new, n)) unused

-- the segments behind one that leaves so many bits unused
abbrev pub bits_go_on : ℕ → TreeValues → Option (List ℕ × ℕ)
bits_go_on unused trees =
    if no_trees trees then Some ([], unused) else (if unused == 0 then bit_segments_in trees else None)
