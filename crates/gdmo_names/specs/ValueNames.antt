-- ValueNames: with which first names the object identifiers begin that stand in a value. The syntax decides which
-- braces are arcs and which hold components or elements; of two components of one name the first is meant (X.680,
-- sections 17 to 32; docs/PROFILE.md, sections 8 and 12). A text is told by what it says (ValueTrees of
-- asn1_values_syntax).
use Rattle.std.specs.Prelude.{◌≡◌, ℕ, List, [], Bool, Option, None, Some}
use Rattle.token_grammar.specs.declared.token.Token.{Token}
use Rattle.token_grammar.specs.Form.{Tree, Bare, Leaf, Pair, First, Second, Absent, Present, Empty, After, Numbered}
use Rattle.term_values.specs.CmipTypes.{filter_choice}
use Rattle.term_values.specs.Syntaxes.{Bounds, TypeSyntax, TypeParts}
use Rattle.term_values.specs.Syntaxes.TypeSyntax.{ObjectIdentifier, Sequence, SetType, SequenceOf, SetOf, Choice}
use Rattle.term_values.specs.Syntaxes.TypeSyntax.{Tagged, Filter}
use Rattle.term_values.specs.Syntaxes.TypeParts.{Part}
use Rattle.term_values.specs.declared.tag.Tag.{Tag}
use Rattle.gdmo_names.specs.AttributeSyntaxes.{part_called}

-- a name, or a number without a sign behind it
abbrev pub part_name : Tree → Option Token
part_name (First (Pair (Leaf name) (Numbered n (Second (First (Pair Absent number)))))) = Some name
part_name (Second (Numbered n (Second (Second (First (Pair (Leaf name) Absent)))))) = Some name
part_name part = None

abbrev pub content_name : Tree → Option Token
content_name (Second (First (Pair (After Empty part) Bare))) = part_name part
content_name (Second (Second (Second (Pair (Leaf first) others)))) = Some first
content_name content = None

-- `{name}`, `{name number ..}`: the name with which braces begin that can be arcs
abbrev pub arcs_name : Tree → Option Token
arcs_name (Numbered n (Second (Second (Second (Pair brace content))))) = content_name content
arcs_name text = None

-- `name : value`
abbrev pub chosen_value : Tree → Option (Token × Tree)
chosen_value (Numbered n (Second (Second (First (Pair (Leaf name) (Present (Pair Bare value))))))) = Some (name, value)
chosen_value text = None

-- the parts in braces, one behind the other
abbrev pub parts_in : Tree → Option Tree
parts_in (Numbered n (Second (Second (Second (Pair brace (Second (First (Pair row Bare)))))))) = Some row
parts_in text = None

-- a part: the text of its name, empty where it has none, and its value
abbrev pub part_value : Tree → Option (List ℕ × Tree)
part_value (First (Pair (Leaf name) value)) = Some (name.text, value)
part_value (Second value) = Some ([], value)
part_value part = None

pub data IsPartOf (name : List ℕ) (value : Tree) : Tree → Type 0 where
  last : {before part : Tree} → part_value part ≡ Some (name, value) → IsPartOf name value (After before part)
  earlier : {before part : Tree} → IsPartOf name value before → IsPartOf name value (After before part)

-- in the braces of a text stands a value with this name
pub record HasPart (text : Tree) (name : List ℕ) (value : Tree) : Type 0 where
  pub row : Tree
  pub braces : parts_in text ≡ Some row
  pub stands : IsPartOf name value row

-- a component of this syntax can be meant by a name, or, where it has none, by its value alone
pub data IsCalled (name : List ℕ) (syntax : TypeSyntax) : TypeParts → Type 0 where
  first_called : {k : ℕ} {parts : TypeParts} → part_called name 0 parts ≡ Some (k, syntax) → IsCalled name syntax parts
  unnamed : {optional : Bool} {default : Option _} {rest : TypeParts} → name ≡ [] →
      IsCalled name syntax (Part [] syntax optional default rest)
  behind : {its_name : List ℕ} {its_syntax : TypeSyntax} {optional : Bool} {default : Option _} {rest : TypeParts} →
      name ≡ [] → IsCalled name syntax rest → IsCalled name syntax (Part its_name its_syntax optional default rest)

-- an object identifier that stands in the value of a syntax begins with the name
pub data BeginsIn (first : Token) : TypeSyntax → Tree → Type 0 where
  arcs : {text : Tree} → arcs_name text ≡ Some first → BeginsIn first ObjectIdentifier text
  component : {parts : TypeParts} {text value : Tree} {name : List ℕ} {syntax : TypeSyntax} →
      HasPart text name value → IsCalled name syntax parts → BeginsIn first syntax value →
      BeginsIn first (Sequence parts) text
  set_component : {parts : TypeParts} {text value : Tree} {name : List ℕ} {syntax : TypeSyntax} →
      HasPart text name value → IsCalled name syntax parts → BeginsIn first syntax value →
      BeginsIn first (SetType parts) text
  element : {of : TypeSyntax} {sizes : Bounds} {text value : Tree} → HasPart text [] value →
      BeginsIn first of value → BeginsIn first (SequenceOf of sizes) text
  set_element : {of : TypeSyntax} {sizes : Bounds} {text value : Tree} → HasPart text [] value →
      BeginsIn first of value → BeginsIn first (SetOf of sizes) text
  chosen : {parts : TypeParts} {text value : Tree} {name : Token} {k : ℕ} {syntax : TypeSyntax} →
      chosen_value text ≡ Some (name, value) → part_called name.text 0 parts ≡ Some (k, syntax) →
      BeginsIn first syntax value → BeginsIn first (Choice parts) text
  tagged : {tag : Tag} {explicit : Bool} {of : TypeSyntax} {text : Tree} → BeginsIn first of text →
      BeginsIn first (Tagged tag explicit of) text
  filter : {text : Tree} → BeginsIn first filter_choice text → BeginsIn first Filter text
