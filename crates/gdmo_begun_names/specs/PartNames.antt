-- PartNames: the syntax beneath tags, and with which first names the parts of a value begin that stand in its braces
-- (X.680, sections 17 to 32; docs/PROFILE.md, sections 8 and 12).
use Rattle.std.specs.Prelude.{◌≡◌, ◌≢◌, ◌⊎◌, ℕ, List, [], Option, None, Some, if◌then◌else◌}
use Rattle.token_grammar.specs.declared.token.Token.{Token}
use Rattle.token_grammar.specs.Form.{Tree}
use Rattle.term_values.specs.Syntaxes.{TypeSyntax, TypeParts}
use Rattle.term_values.specs.Syntaxes.TypeSyntax.{Sequence, SetType, SequenceOf, SetOf, Tagged}
use Rattle.term_values.specs.Syntaxes.TypeParts.{NoParts, Part}
use Rattle.asn1_names.specs.StandardModule.{is_same_name}
use Rattle.gdmo_names.specs.ValueNames.{BeginsIn, HasPart, IsCalled, arcs_name, chosen_value, part_value}

abbrev pub bare : TypeSyntax → TypeSyntax
bare (Tagged tag explicit of) = bare of
bare syntax = syntax

-- the first component or alternative of a name
abbrev pub syntax_called : List ℕ → TypeParts → Option TypeSyntax
syntax_called name NoParts = None
syntax_called name (Part its_name syntax optional default rest) =
    if is_same_name its_name name then Some syntax else syntax_called name rest

-- a component without a name has this syntax
abbrev pub Unnamed : TypeSyntax → TypeParts → Type 0
Unnamed syntax NoParts = ⊥
Unnamed syntax (Part name own optional default rest) = ((name ≡ []) × (own ≡ syntax)) ⊎ Unnamed syntax rest

-- the components of a SEQUENCE
abbrev pub members : TypeSyntax → TypeParts
members (Sequence parts) = parts
members syntax = NoParts

-- a component whose name the part has, and one of those without a name
abbrev pub IsNamedComponent : TypeParts → List ℕ → TypeSyntax → Type 0
IsNamedComponent parts name syntax = (name ≢ []) × (syntax_called name parts ≡ Some syntax)

abbrev pub IsUnnamedComponent : TypeParts → List ℕ → TypeSyntax → Type 0
IsUnnamedComponent parts name syntax = (name ≡ []) × Unnamed syntax parts

-- an element has no name
abbrev pub IsElement : TypeSyntax → List ℕ → TypeSyntax → Type 0
IsElement of name syntax = (name ≡ []) × (of ≡ syntax)

-- a component with these names
abbrev pub IsComponent : TypeParts → List ℕ → TypeSyntax → Type 0
IsComponent parts name syntax = IsCalled name syntax parts

-- a part of a value of the first syntax can have this name, empty where it has none, and be of the second syntax
abbrev pub CanBePart : TypeSyntax → List ℕ → TypeSyntax → Type 0
CanBePart (Sequence parts) = IsComponent parts
CanBePart (SetType parts) = IsComponent parts
CanBePart (SequenceOf of sizes) = IsElement of
CanBePart (SetOf of sizes) = IsElement of
CanBePart whole = λ name syntax. ⊥

-- an object identifier in a part of such a value begins with the name
pub record BeginsPart (Can : List ℕ → TypeSyntax → Type 0) (part : Tree) (first : Token) : Type 0 where
  pub name : List ℕ
  pub value : Tree
  pub syntax : TypeSyntax
  pub is : part_value part ≡ Some (name, value)
  pub can : Can name syntax
  pub begins : BeginsIn first syntax value

-- some braces that can be arcs begin with the name, in whatever syntax
pub data MayBegin (first : Token) : Tree → Type 0 where
  arcs : {text : Tree} → arcs_name text ≡ Some first → MayBegin first text
  part : {text value : Tree} {name : List ℕ} → HasPart text name value → MayBegin first value → MayBegin first text
  chosen : {text value : Tree} {name : Token} → chosen_value text ≡ Some (name, value) → MayBegin first value →
      MayBegin first text

-- the same of the parts of a value
pub record BeginsWithin (Can : List ℕ → TypeSyntax → Type 0) (text : Tree) (first : Token) : Type 0 where
  pub name : List ℕ
  pub value : Tree
  pub syntax : TypeSyntax
  pub has : HasPart text name value
  pub can : Can name syntax
  pub begins : BeginsIn first syntax value

-- an object identifier in the value that a value chooses begins with the name
pub record BeginsChosen (parts : TypeParts) (text : Tree) (first : Token) : Type 0 where
  pub name : Token
  pub value : Tree
  pub syntax : TypeSyntax
  pub is : chosen_value text ≡ Some (name, value)
  pub called : syntax_called name.text parts ≡ Some syntax
  pub begins : BeginsIn first syntax value

abbrev pub MayBeginValue : Tree → Token → Type 0
MayBeginValue text first = MayBegin first text

-- the same of a part
pub record MayBeginPart (part : Tree) (first : Token) : Type 0 where
  pub name : List ℕ
  pub value : Tree
  pub is : part_value part ≡ Some (name, value)
  pub may : MayBegin first value
