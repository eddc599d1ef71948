-- Which filters are valid, and which are true of an object: X.711, section 7.5, type CMISFilter;
-- docs/PROFILE.md, sections 10 and 13.
use Rattle.std.specs.Prelude.{◌≡◌, ◌⊎◌, ℕ, List, [], ◌∷◌, Bool, true, false, Option, Some, None, is_some}
use Rattle.std.specs.Prelude.{◌&&◌, find, option_and_then}
use Rattle.std.specs.List.{list_all}
use Rattle.std.specs.Option.{option_map, option_map_or}
use Rattle.std.specs.Ordering.{int_eq}
use Rattle.term_values.specs.Typed.{TypedValue, TypedValues}
use Rattle.term_values.specs.Typed.TypedValue.{Many, Pick}
use Rattle.term_values.specs.Typed.TypedValues.{Nothing as NoPieces, Then as AndPieces}
use Rattle.term_values.specs.Matching.{Matches}
use Rattle.term_values.specs.MatchingKinds.{MatchingRule, can_match}
use Rattle.term_values.specs.MatchingKinds.MatchingRule.{Equality, Ordering, Substrings, Comparison, Intersection}
use Rattle.term_model.specs.declared.filter_item.Item.{Item}
use Rattle.term_model.specs.declared.filter_item.Item.TheVariants as items
use Rattle.term_model.specs.declared.filter_item.Piece.{Piece}
use Rattle.term_model.specs.declared.object.Attribute.{Attribute}
use Rattle.term_model.specs.declared.request.IdRef.{IdRef}
use Rattle.term_model.specs.declared.request.IdRef.TheVariants.{Global, Local}
use Rattle.term_model.specs.declared.schema.AttrRec.{AttrRec}
use Rattle.term_model.specs.Comparing.{is_same_oid}
use Rattle.term_model.specs.FilterTrees.{FilterTree, FilterTrees}
use Rattle.term_model.specs.FilterTrees.FilterTree.{OfItem, And, Or, Not}
use Rattle.term_model.specs.FilterTrees.FilterTrees.{Nothing, Then}
use Rattle.term_model.specs.ObjectOperation.{attribute_record}

-- the record of the attribute that is named: a local form names none, and a group is no attribute
abbrev pub named_record : List AttrRec → IdRef → Option AttrRec
named_record records (Global id) = attribute_record records id
named_record records (Local number) = None

-- the value of the attribute of an object that has this identifier
abbrev pub value_in : List Attribute → List ℕ → Option TypedValue
value_in attributes id =
    option_map (λ (attribute : Attribute). attribute.value)
    (find (λ (attribute : Attribute). is_same_oid attribute.id id) attributes)

-- the value of the attribute that is named, where it is known and the object has it
abbrev pub held_value : List AttrRec → List Attribute → IdRef → Option TypedValue
held_value records attributes (Global id) =
    option_and_then (λ (of_attribute : AttrRec). value_in attributes id) (attribute_record records id)
held_value records attributes (Local number) = None

-- An assertion is invalid where the attribute is known and lacks the rule, or its syntax isn't of the rule's kind, or
-- the value doesn't fit. The others are valid.
abbrev pub is_valid_assertion : List AttrRec → MatchingRule → IdRef → Option TypedValue → Bool
is_valid_assertion records rule id value =
    option_map_or (λ (of_attribute : AttrRec). can_match rule of_attribute.rules of_attribute.syntax && is_some value)
    (named_record records id) true

abbrev pub is_same_ref : IdRef → IdRef → Bool
is_same_ref (Global id) (Global other) = is_same_oid id other
is_same_ref (Local number) (Local other) = int_eq number other
is_same_ref _ _ = false

-- there is a piece, all of them name one attribute, and what they assert of it is valid
abbrev pub are_valid_pieces : List AttrRec → List Piece → Option TypedValue → Bool
are_valid_pieces records [] value = false
are_valid_pieces records (piece ∷ pieces) value =
    list_all (λ (other : Piece). is_same_ref other.given.id piece.given.id) pieces
    && is_valid_assertion records Substrings piece.given.id value

abbrev pub is_valid_item : List AttrRec → Item → Bool
is_valid_item records (items.Equality given) = is_valid_assertion records Equality given.id given.value
is_valid_item records (items.Substrings pieces value) = are_valid_pieces records pieces value
is_valid_item records (items.GreaterOrEqual given) = is_valid_assertion records Ordering given.id given.value
is_valid_item records (items.LessOrEqual given) = is_valid_assertion records Ordering given.id given.value
is_valid_item records (items.Present id) = true
is_valid_item records (items.SubsetOf given) = is_valid_assertion records Comparison given.id given.value
is_valid_item records (items.SupersetOf given) = is_valid_assertion records Comparison given.id given.value
is_valid_item records (items.Meets given) = is_valid_assertion records Intersection given.id given.value

-- no item of the filter is invalid, wherever it stands
abbrev mutual
  pub is_valid : List AttrRec → FilterTree → Bool
  is_valid records (OfItem item) = is_valid_item records item
  is_valid records (And filters) = are_valid records filters
  is_valid records (Or filters) = are_valid records filters
  is_valid records (Not filter) = is_valid records filter

  pub are_valid : List AttrRec → FilterTrees → Bool
  are_valid records Nothing = true
  are_valid records (Then filter filters) = is_valid records filter && are_valid records filters

-- what an asserted value and the held one are to each other, where both are there
abbrev pub Meet : (TypedValue → TypedValue → Type 0) → Option TypedValue → Option TypedValue → Type 0
Meet matched (Some asserted) (Some held) = matched asserted held
Meet matched _ _ = ⊥

-- the attribute of the first piece, which is that of all of them
abbrev pub pieces_value : List AttrRec → List Attribute → List Piece → Option TypedValue
pieces_value records attributes [] = None
pieces_value records attributes (piece ∷ pieces) = held_value records attributes piece.given.id

-- What a valid item says of an object: the attribute is known, the object has it, and its value matches. ORDERING says
-- that the first value is at most the second one, and SET-COMPARISON that the first one is within the second one: so
-- greaterOrEqual and supersetOf take the held value first.
abbrev pub IsTrueItem : List AttrRec → List Attribute → Item → Type 0
IsTrueItem records attributes (items.Equality given) =
    Meet (Matches Equality) given.value (held_value records attributes given.id)
IsTrueItem records attributes (items.Substrings pieces value) =
    Meet (Matches Substrings) value (pieces_value records attributes pieces)
IsTrueItem records attributes (items.GreaterOrEqual given) =
    Meet (λ asserted held. Matches Ordering held asserted) given.value (held_value records attributes given.id)
IsTrueItem records attributes (items.LessOrEqual given) =
    Meet (Matches Ordering) given.value (held_value records attributes given.id)
IsTrueItem records attributes (items.Present id) = is_some (held_value records attributes id) ≡ true
IsTrueItem records attributes (items.SubsetOf given) =
    Meet (Matches Comparison) given.value (held_value records attributes given.id)
IsTrueItem records attributes (items.SupersetOf given) =
    Meet (λ asserted held. Matches Comparison held asserted) given.value (held_value records attributes given.id)
IsTrueItem records attributes (items.Meets given) =
    Meet (Matches Intersection) given.value (held_value records attributes given.id)

-- The truth of a valid filter. The empty and is true, the empty or false.
abbrev mutual
  pub IsTrueOf : List AttrRec → List Attribute → FilterTree → Type 0
  IsTrueOf records attributes (OfItem item) = IsTrueItem records attributes item
  IsTrueOf records attributes (And filters) = AreTrueOf records attributes filters
  IsTrueOf records attributes (Or filters) = IsSomeTrueOf records attributes filters
  IsTrueOf records attributes (Not filter) = ¬ (IsTrueOf records attributes filter)

  pub AreTrueOf : List AttrRec → List Attribute → FilterTrees → Type 0
  AreTrueOf records attributes Nothing = Unit {0}
  AreTrueOf records attributes (Then filter filters) =
      IsTrueOf records attributes filter × AreTrueOf records attributes filters

  pub IsSomeTrueOf : List AttrRec → List Attribute → FilterTrees → Type 0
  IsSomeTrueOf records attributes Nothing = ⊥
  IsSomeTrueOf records attributes (Then filter filters) =
      IsTrueOf records attributes filter ⊎ IsSomeTrueOf records attributes filters

-- The value of pieces, in which each stands under its kind, as a substrings item has it beside them: none where the
-- value of one of them is none.
abbrev pub pieces_listed : List Piece → Option TypedValues
pieces_listed [] = Some NoPieces
pieces_listed (piece ∷ pieces) =
    option_and_then (λ value. option_map (λ values. AndPieces (Pick piece.kind value) values) (pieces_listed pieces))
    piece.given.value

abbrev pub asserted_pieces : List Piece → Option TypedValue
asserted_pieces pieces = option_map Many (pieces_listed pieces)
