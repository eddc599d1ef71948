-- PartsInFront: the components or alternatives of a list in front of others (X.680, ComponentTypeList and
-- AlternativeTypeList).
use Rattle.std.specs.Prelude.{List, [], ◌∷◌}
use Rattle.term_values.specs.declared.syntax.Part.{Part as Component}
use Rattle.term_values.specs.Syntaxes.{TypeParts}
use Rattle.term_values.specs.Syntaxes.TypeParts.{Part}

abbrev pub in_front : List Component → TypeParts → TypeParts
in_front [] rest = rest
in_front (x ∷ xs) rest = Part x.name x.syntax x.optional x.default (in_front xs rest)
