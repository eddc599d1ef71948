-- Components in front of others, and the list of all of them.
use Rattle.std.proofs.Common.{◌≡◌, refl, ap, List, [], ◌∷◌, ◌++◌}
use Rattle.term_values.specs.declared.syntax.Part.{Part as Component}
use Rattle.term_values.specs.PartsView.{parts_listed}
use Rattle.term_values.specs.Syntaxes.{TypeParts}
use Rattle.term_values.specs.Syntaxes.TypeParts.{NoParts, Part}
use Rattle.asn1_names.specs.PartsInFront.{in_front}

pub front_of_both : (xs ys : List Component) (rest : TypeParts)
    → in_front (xs ++ ys) rest ≡ in_front xs (in_front ys rest)
front_of_both [] ys rest = refl
front_of_both (x ∷ xs) ys rest = ap (Part x.name x.syntax x.optional x.default) (front_of_both xs ys rest)

pub front_of_none : (xs : List Component) → parts_listed xs ≡ in_front xs NoParts
front_of_none [] = refl
front_of_none (x ∷ xs) = ap (Part x.name x.syntax x.optional x.default) (front_of_none xs)
