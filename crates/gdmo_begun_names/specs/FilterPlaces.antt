-- FilterPlaces: the syntaxes that values in a CMISFilter have in which object identifiers stand, and what is called by
-- a name in them (X.711, section 7.5).
use Rattle.std.specs.Prelude.{ℕ, List, Option, None, Some, codes, option_map}
use Rattle.token_grammar.specs.Form.{Tree}
use Rattle.term_values.specs.CmipTypes.{attribute, attribute_id, filter_choice, filter_item, implicit, number, one}
use Rattle.term_values.specs.CmipTypes.{piece, set_of, substrings}
use Rattle.term_values.specs.Syntaxes.{TypeSyntax, TypeParts}
use Rattle.term_values.specs.Syntaxes.TypeSyntax.{Choice, Filter, ObjectIdentifier}
use Rattle.term_values.specs.Syntaxes.TypeParts.{NoParts}
use Rattle.gdmo_names.specs.ValueNames.{BeginsIn, arcs_name}
use Rattle.gdmo_begun_names.specs.declared.filter_names.FilterPlace.{FilterPlace}
use Rattle.gdmo_begun_names.specs.declared.filter_names.FilterPlace.TheVariants as at
use Rattle.gdmo_begun_names.specs.BegunMarks.{FirstSet, MaybeFirst}
use Rattle.gdmo_begun_names.specs.PartNames.{CanBePart, bare, syntax_called}

-- one piece of a substrings item
abbrev pub substring : TypeSyntax
substring =
    Choice (one (codes "initial") (implicit 0 piece)
    (one (codes "any") (implicit 1 piece) (one (codes "final") (implicit 2 piece) NoParts)))

abbrev pub place_syntax : FilterPlace → TypeSyntax
place_syntax at.Filter = Filter
place_syntax at.Members = set_of Filter
place_syntax at.Item = filter_item
place_syntax at.Assertion = attribute
place_syntax at.Identifier = attribute_id
place_syntax at.Substrings = substrings
place_syntax at.Substring = substring
place_syntax at.Piece = piece
place_syntax at.Arcs = ObjectIdentifier
place_syntax at.Number = number

-- the alternatives of a choice
abbrev pub alternatives : TypeSyntax → TypeParts
alternatives (Choice parts) = parts
alternatives syntax = NoParts

abbrev pub place_choice : FilterPlace → TypeParts
place_choice at.Filter = alternatives filter_choice
place_choice at.Members = NoParts
place_choice at.Item = alternatives filter_item
place_choice at.Assertion = NoParts
place_choice at.Identifier = alternatives attribute_id
place_choice at.Substrings = NoParts
place_choice at.Substring = alternatives substring
place_choice at.Piece = NoParts
place_choice at.Arcs = NoParts
place_choice at.Number = NoParts

-- what the alternative of a name is, beneath its tag
unfoldable pub filter_called : List ℕ → Option TypeSyntax
filter_called name = option_map bare (syntax_called name (alternatives filter_choice))

unfoldable pub item_called : List ℕ → Option TypeSyntax
item_called name = option_map bare (syntax_called name (alternatives filter_item))

unfoldable pub identifier_called : List ℕ → Option TypeSyntax
identifier_called name = option_map bare (syntax_called name (alternatives attribute_id))

unfoldable pub substring_called : List ℕ → Option TypeSyntax
substring_called name = option_map bare (syntax_called name (alternatives substring))

abbrev pub place_called : FilterPlace → List ℕ → Option TypeSyntax
place_called at.Filter name = filter_called name
place_called at.Members name = None
place_called at.Item name = item_called name
place_called at.Assertion name = None
place_called at.Identifier name = identifier_called name
place_called at.Substrings name = None
place_called at.Substring name = substring_called name
place_called at.Piece name = None
place_called at.Arcs name = None
place_called at.Number name = None

-- a value that stands at a place begins with the name
abbrev pub BeginsPlace : FilterPlace → Tree → FirstSet
BeginsPlace place text first = BeginsIn first (place_syntax place) text

abbrev pub BeginsAt : Option FilterPlace → Tree → FirstSet
BeginsAt None text first = ⊥
BeginsAt (Some place) text first = BeginsPlace place text first

-- it is itself the object identifier
abbrev pub OwnArcs : FilterPlace → Tree → FirstSet
OwnArcs at.Filter text first = ⊥
OwnArcs at.Members text first = ⊥
OwnArcs at.Item text first = ⊥
OwnArcs at.Assertion text first = ⊥
OwnArcs at.Identifier text first = ⊥
OwnArcs at.Substrings text first = ⊥
OwnArcs at.Substring text first = ⊥
OwnArcs at.Piece text first = ⊥
OwnArcs at.Arcs text first = MaybeFirst (arcs_name text) first
OwnArcs at.Number text first = ⊥

-- the value of a part of this name begins with it
abbrev pub BeginsNamed : TypeSyntax → List ℕ → Tree → FirstSet
BeginsNamed whole name value first =
    (syntax : TypeSyntax) × CanBePart whole name syntax × BeginsIn first syntax value
