-- Components: a component of the program that must be there.
use Rattle.std.specs.Prelude.{◌≡◌, ℕ, List, false, None}
use Rattle.term_values.specs.Syntaxes.{TypeSyntax}
use Rattle.term_values.specs.declared.syntax.Part.{Part}

-- a component or an alternative of this name and type, neither optional nor with a default
pub record IsOne (name : List ℕ) (syntax : TypeSyntax) (part : Part) : Type 0 where
  pub named : part.name ≡ name
  pub typed : part.syntax ≡ syntax
  pub needed : part.optional ≡ false
  pub plain : part.default ≡ None
