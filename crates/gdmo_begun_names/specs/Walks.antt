-- Walks: with which first names values begin, by what stands in them (X.680, sections 17 to 32).
use Rattle.std.specs.Prelude.{◌≡◌, ℕ, List, []}
use Rattle.token_grammar.specs.Form.{Tree}
use Rattle.term_values.specs.declared.syntax.Part.{Part as Component}
use Rattle.term_values.specs.Syntaxes.{TypeSyntax}
use Rattle.term_values.specs.Syntaxes.TypeSyntax.{Filter}
use Rattle.gdmo_names.specs.ValueNames.{BeginsIn, arcs_name}
use Rattle.gdmo_begun_names.specs.declared.value_names.Walk.{Walk}
use Rattle.gdmo_begun_names.specs.declared.value_names.Walk.TheVariants as walk
use Rattle.gdmo_begun_names.specs.BegunMarks.{FirstSet, MaybeFirst}
use Rattle.gdmo_begun_names.specs.PartNames.{BeginsChosen, BeginsWithin, IsComponent, IsElement}

-- an object identifier in a value of the syntax begins with the name
abbrev pub BeginsValue : TypeSyntax → Tree → FirstSet
BeginsValue syntax text first = BeginsIn first syntax text

abbrev pub BeginsBy : Walk → Tree → FirstSet
BeginsBy walk.Arcs text first = MaybeFirst (arcs_name text) first
BeginsBy walk.Filter text first = BeginsIn first Filter text
BeginsBy (walk.Alternatives parts) text first = BeginsChosen parts.now text first
BeginsBy (walk.Components parts) text first = BeginsWithin (IsComponent parts.now) text first
BeginsBy (walk.Elements of) text first = BeginsWithin (IsElement of.now) text first
BeginsBy walk.Nothing text first = ⊥

-- the component has no name, nor has the part
abbrev pub IsUnnamedOne : Component → List ℕ → TypeSyntax → Type 0
IsUnnamedOne component name syntax = (component.name ≡ []) × (name ≡ []) × (component.syntax ≡ syntax)
