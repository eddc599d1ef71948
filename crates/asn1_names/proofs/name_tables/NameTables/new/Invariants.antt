use Rattle.std.proofs.Common.{◌≡◌, ℕ, List, map, take}
use Rattle.asn1_names.specs.AssignmentNumbers.{all_numbered, first_place}
use Rattle.asn1_names.specs.FirstNames.{found}
use Rattle.asn1_names.specs.ModuleTables.{TellAllNames, numbered_view}
use Rattle.asn1_names.specs.TermViews.{module_term}
use Rattle.asn1_names.proofs.name_tables.NameTables.new.Given as goal

abbrev pub invariant-loop-home : goal.invariant-loop-home
invariant-loop-home l =
    ((name : List ℕ) → found l.by_name name ≡ first_place name 0 (map module_term (take l.home l.modules)))
    × TellAllNames 0 l.names.items (map module_term (take l.home l.modules))
    × (map numbered_view l.assignments.items ≡ all_numbered 0 (map module_term (take l.home l.modules)))
