-- LeftBounds: which numbers, or sizes, are within the bounds of a syntax and of types that permit its values (X.680,
-- section 51; X.722, section 8.4).
use Rattle.std.specs.Prelude.{◌≡◌, ℕ, ℤ, pos, List, Bool, true, ◌&&◌, ◌||◌, ◌==◌, Option, None, Some}
use Rattle.std.specs.Prelude.{FitsSigned, int_le, if◌then◌else◌}
use Rattle.std.specs.List.{list_all}
use Rattle.std.specs.Int.{w64}
use Rattle.term_values.specs.Bounded.{allowed}
use Rattle.term_values.specs.MatchingKinds.{beneath_tags}
use Rattle.term_values.specs.Syntaxes.{Bounds, TypeSyntax}
use Rattle.term_model.specs.WholeRecords.{form_bounds}
use Rattle.permitted_bounds.specs.declared.permitted.Permitted.{Permitted}
use Rattle.permitted_bounds.specs.FormNumbers.{number_of}

-- a whole number may be any, a size is none below 0
abbrev pub has_form : ℕ → ℤ → Bool
has_form form n = form == 0 || int_le (pos 0) n

-- the number is within bounds of this form; others say nothing of it
abbrev pub is_bounded : ℕ → ℤ → Option (ℕ × Bounds) → Bool
is_bounded form n None = true
is_bounded form n (Some own) = if own.0 == form then allowed own.1 n else true

abbrev pub is_within : ℕ → ℤ → TypeSyntax → Bool
is_within form n type = is_bounded form n (form_bounds (beneath_tags type))

-- what the types leave of the syntax, as bounds of its form
pub record IsLeft (syntax : TypeSyntax) (types : List TypeSyntax) (left : Permitted) : Type 0 where
  pub bounds : Bounds
  pub own : form_bounds (beneath_tags syntax) ≡ Some (number_of left.form, bounds)
  pub same : (n : ℤ) → FitsSigned w64 n → allowed left.bounds n
      ≡ (has_form (number_of left.form) n && is_within (number_of left.form) n syntax
      && list_all (is_within (number_of left.form) n) types)
