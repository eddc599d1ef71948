-- Which filter a tree denotes under the attributes of a schema, by the cases of the filter: X.711, section 7.5, type
-- CMISFilter; docs/PROFILE.md, section 13. The function that computes it is filter_in of FilterReading.
use Rattle.std.specs.Prelude.{◌≡◌, ℕ, ◌≤◌, List, [], ◌∷◌}
use Rattle.term_values.specs.Tag.{context}
use Rattle.term_values.specs.Tree.{TreeValue, TreeValues}
use Rattle.term_values.specs.Tree.TreeValue.{Constructed}
use Rattle.term_values.specs.Tree.TreeValues.{Nothing, Then}
use Rattle.term_model.specs.declared.filter_item.Given.{Given}
use Rattle.term_model.specs.declared.filter_item.Item.{Item}
use Rattle.term_model.specs.declared.filter_item.Item.TheVariants as items
use Rattle.term_model.specs.declared.filter_item.Piece.{Piece}
use Rattle.term_model.specs.declared.schema.AttrRec.{AttrRec}
use Rattle.term_model.specs.Assertions.{IsGiven, IsIdRef, attribute_syntax}
use Rattle.term_model.specs.FilterTrees.{FilterTree, FilterTrees}
use Rattle.term_model.specs.FilterTrees.FilterTree.{OfItem, And, Or, Not}
use Rattle.term_model.specs.FilterTrees.FilterTrees.{Nothing as NoFilters, Then as AndFilters}
use Rattle.term_model.specs.FilterTruth.{asserted_pieces}

-- the tree holds these trees under the context tag with this number
abbrev pub Holds : ℕ → TreeValue → TreeValues → Type 0
Holds number tree inside = tree ≡ Constructed (context number) inside

-- the components of Attribute, AttributeId and a value
abbrev pub DenoteGiven : List AttrRec → TreeValues → Given → Type 0
DenoteGiven records trees given =
    (id value : TreeValue) × (trees ≡ Then id (Then value Nothing)) × IsIdRef 0 1 id given.id
    × IsGiven (attribute_syntax records given.id) given.id value given

abbrev pub DenotesGiven : ℕ → List AttrRec → TreeValue → Given → Type 0
DenotesGiven number records tree given = (inside : TreeValues) × Holds number tree inside
    × DenoteGiven records inside given

-- pieces: initial [0], any [1], final [2]
abbrev pub DenotePieces : List AttrRec → TreeValues → List Piece → Type 0
DenotePieces records trees [] = trees ≡ Nothing
DenotePieces records trees (piece ∷ pieces) =
    (first : TreeValue) × (others : TreeValues) × (trees ≡ Then first others) × (piece.kind ≤ 2)
    × DenotesGiven piece.kind records first piece.given × DenotePieces records others pieces

abbrev pub DenotesItem : List AttrRec → TreeValue → Item → Type 0
DenotesItem records tree (items.Equality given) = DenotesGiven 0 records tree given
DenotesItem records tree (items.Substrings pieces value) =
    (inside : TreeValues) × Holds 1 tree inside × DenotePieces records inside pieces × (value ≡ asserted_pieces pieces)
DenotesItem records tree (items.GreaterOrEqual given) = DenotesGiven 2 records tree given
DenotesItem records tree (items.LessOrEqual given) = DenotesGiven 3 records tree given
DenotesItem records tree (items.Present id) = (x : TreeValue) × Holds 4 tree (Then x Nothing) × IsIdRef 0 1 x id
DenotesItem records tree (items.SubsetOf given) = DenotesGiven 5 records tree given
DenotesItem records tree (items.SupersetOf given) = DenotesGiven 6 records tree given
DenotesItem records tree (items.Meets given) = DenotesGiven 7 records tree given

-- item [8] explicit, and [9], or [10], not [11] explicit. The filters of a SET OF stand as they came.
abbrev mutual
  pub DenotesFilter : List AttrRec → TreeValue → FilterTree → Type 0
  DenotesFilter records tree (OfItem item) = (x : TreeValue) × Holds 8 tree (Then x Nothing)
      × DenotesItem records x item
  DenotesFilter records tree (And filters) =
      (inside : TreeValues) × Holds 9 tree inside × DenoteFilters records inside filters
  DenotesFilter records tree (Or filters) =
      (inside : TreeValues) × Holds 10 tree inside × DenoteFilters records inside filters
  DenotesFilter records tree (Not filter) =
      (x : TreeValue) × Holds 11 tree (Then x Nothing) × DenotesFilter records x filter

  pub DenoteFilters : List AttrRec → TreeValues → FilterTrees → Type 0
  DenoteFilters records trees NoFilters = trees ≡ Nothing
  DenoteFilters records trees (AndFilters filter filters) =
      (first : TreeValue) × (others : TreeValues) × (trees ≡ Then first others) × DenotesFilter records first filter
      × DenoteFilters records others filters
