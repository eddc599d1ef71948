-- The names from here on tell.
use Rattle.std.proofs.Common.{◌≡◌, drop}
use Rattle.std.specs.Cmp.Lexicographic.{pointwise}
use Rattle.term_values.specs.SameSyntax.{same_name}
use Rattle.syntax_equality.proofs.leaf_parts.same_names.Given as goal

abbrev pub invariant-loop-i : goal.invariant-loop-i
invariant-loop-i l =
    pointwise same_name l.names l.others ≡ pointwise same_name (drop l.i l.names) (drop l.i l.others)
