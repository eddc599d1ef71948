-- The pairs from here on tell.
use Rattle.std.proofs.Common.{◌≡◌, drop}
use Rattle.std.specs.Cmp.Lexicographic.{pointwise}
use Rattle.term_values.specs.SameSyntax.{same_pair}
use Rattle.syntax_equality.proofs.leaf_parts.same_bounds.Given as goal

abbrev pub invariant-loop-i : goal.invariant-loop-i
invariant-loop-i l =
    pointwise same_pair l.pairs l.others ≡ pointwise same_pair (drop l.i l.pairs) (drop l.i l.others)
