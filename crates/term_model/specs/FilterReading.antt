-- The filter that a tree gives under the attributes of a schema: X.711, section 7.5, type CMISFilter; docs/PROFILE.md,
-- section 13. The function that computes is asked_in; the relation beside it is in FilterDenoting.
use Rattle.std.specs.Prelude.{ℕ, List, [], ◌∷◌, Option, None, Some, option_and_then, if◌then◌else◌}
use Rattle.std.specs.Option.{option_map}
use Rattle.term_values.specs.Der.{written}
use Rattle.term_values.specs.FilterTrees.{is_context}
use Rattle.term_values.specs.Tree.{TreeValue, TreeValues}
use Rattle.term_values.specs.Tree.TreeValue.{Primitive, Constructed}
use Rattle.term_values.specs.Tree.TreeValues.{Nothing, Then}
use Rattle.term_values.specs.declared.tag.Tag.{Tag}
use Rattle.term_model.specs.declared.filter.Asked.{Asked}
use Rattle.term_model.specs.declared.filter.Asked.TheVariants as asked
use Rattle.term_model.specs.declared.filter_item.Given.{Given}
use Rattle.term_model.specs.declared.filter_item.Item.{Item}
use Rattle.term_model.specs.declared.filter_item.Item.TheVariants as items
use Rattle.term_model.specs.declared.filter_item.Piece.{Piece}
use Rattle.term_model.specs.declared.request.IdRef.{IdRef}
use Rattle.term_model.specs.declared.schema.AttrRec.{AttrRec}
use Rattle.term_model.specs.Assertions.{given_in, id_in}
use Rattle.term_model.specs.FilterLimits.{is_within_limits}
use Rattle.term_model.specs.FilterTrees.{FilterTree, FilterTrees}
use Rattle.term_model.specs.FilterTrees.FilterTree.{OfItem, And, Or, Not}
use Rattle.term_model.specs.FilterTrees.FilterTrees.{Nothing as NoFilters, Then as AndFilters}
use Rattle.term_model.specs.FilterTruth.{asserted_pieces, is_valid}

-- the kind of a piece: initial [0], any [1], final [2]
abbrev pub piece_kind : Tag → Option ℕ
piece_kind tag =
    if is_context 0 tag then Some 0
    else (if is_context 1 tag then Some 1 else (if is_context 2 tag then Some 2 else None))

-- a piece, of which the tag says the kind
abbrev pub piece_of : ℕ → Given → Piece
piece_of kind given = record { kind = kind; given = given }

abbrev pub piece_in : List AttrRec → TreeValue → Option Piece
piece_in records (Primitive tag contents) = None
piece_in records (Constructed tag inside) =
    option_and_then (λ kind. option_map (piece_of kind) (given_in records inside)) (piece_kind tag)

abbrev pub pieces_in : List AttrRec → TreeValues → Option (List Piece)
pieces_in records Nothing = Some []
pieces_in records (Then x xs) =
    option_and_then (λ piece. option_map (λ pieces. piece ∷ pieces) (pieces_in records xs)) (piece_in records x)

-- substrings: the pieces, and beside them their value
abbrev pub substrings_of : List Piece → Item
substrings_of pieces = items.Substrings pieces (asserted_pieces pieces)

-- an assertion about one attribute, by the number of its tag
abbrev pub assertion_by : Tag → Given → Option Item
assertion_by tag given =
    if is_context 0 tag then Some (items.Equality given)
    else (if is_context 2 tag then Some (items.GreaterOrEqual given)
    else (if is_context 3 tag then Some (items.LessOrEqual given)
    else (if is_context 5 tag then Some (items.SubsetOf given)
    else (if is_context 6 tag then Some (items.SupersetOf given)
    else (if is_context 7 tag then Some (items.Meets given) else None)))))

abbrev pub one_id_in : TreeValues → Option IdRef
one_id_in (Then id Nothing) = id_in 0 1 id
one_id_in _ = None

-- an item: substrings [1], present [4], which is explicit, or an assertion
abbrev pub item_in : List AttrRec → TreeValue → Option Item
item_in records (Primitive tag contents) = None
item_in records (Constructed tag inside) =
    if is_context 1 tag then option_map substrings_of (pieces_in records inside)
    else (if is_context 4 tag then option_map items.Present (one_id_in inside)
    else option_and_then (assertion_by tag) (given_in records inside))

abbrev pub one_item_in : List AttrRec → TreeValues → Option Item
one_item_in records (Then item Nothing) = item_in records item
one_item_in records _ = None

-- item [8] explicit, and [9], or [10], not [11] explicit. The filters of a SET OF stand as they came.
abbrev mutual
  pub filter_in : List AttrRec → TreeValue → Option FilterTree
  filter_in records (Primitive tag contents) = None
  filter_in records (Constructed tag inside) =
      if is_context 8 tag then option_map OfItem (one_item_in records inside)
      else (if is_context 9 tag then option_map And (filters_in records inside)
      else (if is_context 10 tag then option_map Or (filters_in records inside)
      else (if is_context 11 tag then option_map Not (one_filter_in records inside) else None)))

  pub filters_in : List AttrRec → TreeValues → Option FilterTrees
  filters_in records Nothing = Some NoFilters
  filters_in records (Then x xs) =
      option_and_then (λ filter. option_map (AndFilters filter) (filters_in records xs)) (filter_in records x)

  pub one_filter_in : List AttrRec → TreeValues → Option FilterTree
  one_filter_in records Nothing = None
  one_filter_in records (Then x Nothing) = filter_in records x
  one_filter_in records (Then x (Then y ys)) = None

-- The filter as it is asked: too large where it passes the limits, else invalid where an item of it is, and then the
-- octets with which it is given back.
abbrev pub valid_of : List AttrRec → List ℕ → FilterTree → Asked
valid_of records raw filter = if is_valid records filter then asked.Good filter else asked.Bad raw

abbrev pub asked_of : List AttrRec → List ℕ → FilterTree → Asked
asked_of records raw filter = if is_within_limits filter then valid_of records raw filter else asked.Large

abbrev pub asked_in : List AttrRec → TreeValue → Option Asked
asked_in records tree = option_map (asked_of records (written tree)) (filter_in records tree)
