-- How many syntaxes stand in a syntax, itself among them, and more for each list.
use Rattle.std.specs.Prelude.{ℕ, ◌+◌}
use Rattle.term_values.specs.Syntaxes.{TypeSyntax, TypeParts}
use Rattle.term_values.specs.Syntaxes.TypeSyntax.{Sequence, SetType, SequenceOf, SetOf, Choice, Tagged}
use Rattle.term_values.specs.Syntaxes.TypeParts.{NoParts, Part}

abbrev mutual
  pub nodes : TypeSyntax → ℕ
  nodes (Sequence parts) = nodes_parts parts + 1
  nodes (SetType parts) = nodes_parts parts + 1
  nodes (SequenceOf of bounds) = nodes of + 1
  nodes (SetOf of bounds) = nodes of + 1
  nodes (Choice parts) = nodes_parts parts + 1
  nodes (Tagged tag explicit of) = nodes of + 1
  nodes _ = 1

  pub nodes_parts : TypeParts → ℕ
  nodes_parts NoParts = 1
  nodes_parts (Part name syntax optional default rest) = nodes syntax + 1 + nodes_parts rest
