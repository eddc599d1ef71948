use Rattle.std.proofs.Common.{◌≡◌, ◌+◌, ◌++◌, ℕ, List, length, map, take}
use Rattle.asn1_names.specs.AssignmentNumbers.{first_number, numbered_from}
use Rattle.asn1_names.specs.FirstNames.{found}
use Rattle.asn1_names.specs.ModuleTables.{numbered_view}
use Rattle.asn1_names.specs.TermViews.{assignment_term}
use Rattle.asn1_names.proofs.name_tables.assigned_names.Given as goal

abbrev pub invariant-loop-place : goal.invariant-loop-place
invariant-loop-place l =
    ((name : List ℕ) → found l.assigned name ≡
    first_number name (length l.initial.assignments.items) (map assignment_term (take l.place l.own)))
    × (map numbered_view l.assignments.items ≡ map numbered_view l.initial.assignments.items ++
    numbered_from l.home 0 (map assignment_term (take l.place l.own)))
    × (length l.assignments.items ≡ length l.initial.assignments.items + l.place)
