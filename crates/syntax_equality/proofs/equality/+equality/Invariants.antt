-- The components from here on tell.
use Rattle.std.proofs.Common.{◌≡◌, drop}
use Rattle.term_values.specs.PartsView.{parts_listed}
use Rattle.term_values.specs.SameSyntax.{same_parts}
use Rattle.syntax_equality.proofs.equality.+equality.Given as goal

abbrev pub invariant-are_same_parts-loop-i : goal.invariant-are_same_parts-loop-i
invariant-are_same_parts-loop-i l =
    same_parts (parts_listed l.items) (parts_listed l.held)
    ≡ same_parts (parts_listed (drop l.i l.items)) (parts_listed (drop l.i l.held))
