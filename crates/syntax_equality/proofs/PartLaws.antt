-- Lists of components of unequal length are unequal.
use Rattle.std.proofs.Common.{◌≡◌, ◌≢◌, Bool, true, false, List, [], ◌∷◌, length, refl, arith}
use Rattle.std.specs.Prelude.{◌&&◌}
use Rattle.term_values.specs.PartsView.{parts_listed}
use Rattle.term_values.specs.SameSyntax.{same_default, same_mark, same_parts, same_syntax}
use Rattle.term_values.specs.SameValue.{same_octets}
use Rattle.term_values.specs.declared.syntax.Part.{Part}

and_false : (a b c d e : Bool) → e ≡ false → a && b && c && d && e ≡ false
and_false true true true true e h = h
and_false true true true false e h = refl
and_false true true false d e h = refl
and_false true false c d e h = refl
and_false false b c d e h = refl

pub unequal_parts : (xs ys : List Part) → length xs ≢ length ys
    → same_parts (parts_listed xs) (parts_listed ys) ≡ false
unequal_parts [] [] h = absurd (h refl)
unequal_parts [] (y ∷ ys) h = refl
unequal_parts (x ∷ xs) [] h = refl
unequal_parts (x ∷ xs) (y ∷ ys) h =
    and_false (same_octets x.name y.name) (same_syntax x.syntax y.syntax) (same_mark x.optional y.optional)
    (same_default x.default y.default) _ (unequal_parts xs ys (λ e. h (omega arith)))
