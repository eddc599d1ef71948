-- The alternatives of ObjectClass: X.711, section 7.5.
use Rattle.std.specs.Prelude.{ℕ, List, Bool, Option, codes}
use Rattle.term_values.specs.CmipTypes.{implicit, number, one}
use Rattle.term_values.specs.Syntaxes.{TypeParts, TypeSyntax}
use Rattle.term_values.specs.Typed.{TypedValue}
use Rattle.term_values.specs.Syntaxes.TypeParts.{NoParts, Part}
use Rattle.term_values.specs.Syntaxes.TypeSyntax.{ObjectIdentifier}

-- localForm [1] INTEGER
abbrev pub local_form : TypeParts
local_form = one (codes "localForm") (implicit 1 number) NoParts

-- globalForm [0] OBJECT IDENTIFIER, and localForm
abbrev pub class_forms : TypeParts
class_forms = one (codes "globalForm") (implicit 0 ObjectIdentifier) local_form

-- an alternative in front of others
abbrev pub a_part : List ℕ → TypeSyntax → Bool → Option TypedValue → TypeParts → TypeParts
a_part name syntax optional default rest = Part name syntax optional default rest
