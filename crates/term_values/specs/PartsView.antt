-- How the components or alternatives of a syntax of the program are seen.
use Rattle.std.specs.Prelude.{List, [], ◌∷◌}
use Rattle.term_values.specs.declared.syntax.Part.{Part as Component}
use Rattle.term_values.specs.Syntaxes.{TypeParts}
use Rattle.term_values.specs.Syntaxes.TypeParts.{NoParts, Part}

abbrev pub parts_listed : List Component → TypeParts
parts_listed [] = NoParts
parts_listed (x ∷ xs) = Part x.name x.syntax x.optional x.default (parts_listed xs)
