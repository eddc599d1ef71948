-- A filter is read from a tree that denotes one, and none exactly where none is denoted.
use Rattle.std.proofs.Common.{◌≡◌, ◌≤◌, ℕ, zero, suc, List, [], ◌∷◌, true, refl, ap, sym, ◌∙◌, subst, arith}
use Rattle.std.specs.Prelude.{is_some}
use Rattle.std.proofs.lemmas.Bool.{false≢true}
use Rattle.term_values.specs.Tag.{context}
use Rattle.term_values.specs.Tree.{TreeValue, TreeValues}
use Rattle.term_values.specs.Tree.TreeValue.{Constructed}
use Rattle.term_values.specs.Tree.TreeValues.{Nothing, Then}
use Rattle.term_model.specs.declared.filter_item.Given.{Given}
use Rattle.term_model.specs.declared.filter_item.Item.{Item}
use Rattle.term_model.specs.declared.filter_item.Item.TheVariants as items
use Rattle.term_model.specs.declared.filter_item.Piece.{Piece}
use Rattle.term_model.specs.declared.schema.AttrRec.{AttrRec}
use Rattle.term_model.specs.Assertions.{attribute_given, given_in, id_in}
use Rattle.term_model.specs.FilterDenoting.{DenoteFilters, DenoteGiven, DenotePieces, DenotesFilter, DenotesItem}
use Rattle.term_model.specs.FilterReading.{filter_in, filters_in, item_in, piece_of, pieces_in, substrings_of}
use Rattle.term_model.specs.FilterTrees.{FilterTree, FilterTrees}
use Rattle.term_model.specs.FilterTrees.FilterTree.{OfItem, And, Or, Not}
use Rattle.term_model.specs.FilterTrees.FilterTrees.{Nothing as NoFilters, Then as AndFilters}
use Rattle.filter_laws.specs.DenotingLaws.{DenotedFilterIsRead, NoFilterIsDenoted}
use Rattle.filter_laws.proofs.FilterTold.{filter_told}
use Rattle.filter_laws.proofs.IdTold.{denoted_id_is_read}
use Rattle.filter_laws.proofs.Options.{both_there, mapped, none_if, some_of, then_mapped}

abbrev before : Piece → List Piece → List Piece
before piece pieces = piece ∷ pieces

given_there : (records : List AttrRec) (trees : TreeValues) (given : Given) → DenoteGiven records trees given
    → is_some (given_in records trees) ≡ true
given_there records trees given d =
    subst (λ xs. is_some (given_in records xs) ≡ true) (sym d.2)
    (mapped (λ named. attribute_given records named d.1) (id_in 0 1 d.0)
    (ap is_some (denoted_id_is_read 0 1 d.0 given.id (λ e. absurd (omega (arith, e))) d.3)))

kind_there : (records : List AttrRec) (kind : ℕ) (inside rest : TreeValues) → kind ≤ 2
    → is_some (given_in records inside) ≡ true → is_some (pieces_in records rest) ≡ true
    → is_some (pieces_in records (Then (Constructed (context kind) inside) rest)) ≡ true
kind_there records zero inside rest small g r =
    both_there before _ (pieces_in records rest) (mapped (piece_of 0) (given_in records inside) g) r
kind_there records (suc zero) inside rest small g r =
    both_there before _ (pieces_in records rest) (mapped (piece_of 1) (given_in records inside) g) r
kind_there records (suc (suc zero)) inside rest small g r =
    both_there before _ (pieces_in records rest) (mapped (piece_of 2) (given_in records inside) g) r
kind_there records (suc (suc (suc kind))) inside rest small g r = absurd (omega (arith, small))

pieces_there : (records : List AttrRec) (trees : TreeValues) (pieces : List Piece) → DenotePieces records trees pieces
    → is_some (pieces_in records trees) ≡ true
pieces_there records trees [] d = subst (λ xs. is_some (pieces_in records xs) ≡ true) (sym d) refl
pieces_there records trees (piece ∷ pieces) d =
    subst (λ xs. is_some (pieces_in records xs) ≡ true) (sym d.2)
    (subst (λ x. is_some (pieces_in records (Then x d.1)) ≡ true) (sym d.4.1)
    (kind_there records piece.kind d.4.0 d.1 d.3 (given_there records d.4.0 piece.given d.4.2)
    (pieces_there records d.1 pieces d.5)))

-- a tree under the tag with this number
under : (records : List AttrRec) (number : ℕ) (tree : TreeValue) (inside : TreeValues)
    → tree ≡ Constructed (context number) inside
    → is_some (item_in records (Constructed (context number) inside)) ≡ true → is_some (item_in records tree) ≡ true
under records number tree inside is there = subst (λ t. is_some (item_in records t) ≡ true) (sym is) there

item_there : (records : List AttrRec) (tree : TreeValue) (item : Item) → DenotesItem records tree item
    → is_some (item_in records tree) ≡ true
item_there records tree (items.Equality given) d =
    under records 0 tree d.0 d.1
    (then_mapped items.Equality (given_in records d.0) (given_there records d.0 given d.2))
item_there records tree (items.Substrings pieces value) d =
    under records 1 tree d.0 d.1
    (mapped substrings_of (pieces_in records d.0) (pieces_there records d.0 pieces d.2))
item_there records tree (items.GreaterOrEqual given) d =
    under records 2 tree d.0 d.1
    (then_mapped items.GreaterOrEqual (given_in records d.0) (given_there records d.0 given d.2))
item_there records tree (items.LessOrEqual given) d =
    under records 3 tree d.0 d.1
    (then_mapped items.LessOrEqual (given_in records d.0) (given_there records d.0 given d.2))
item_there records tree (items.Present id) d =
    under records 4 tree (Then d.0 Nothing) d.1
    (mapped items.Present (id_in 0 1 d.0)
    (ap is_some (denoted_id_is_read 0 1 d.0 id (λ e. absurd (omega (arith, e))) d.2)))
item_there records tree (items.SubsetOf given) d =
    under records 5 tree d.0 d.1
    (then_mapped items.SubsetOf (given_in records d.0) (given_there records d.0 given d.2))
item_there records tree (items.SupersetOf given) d =
    under records 6 tree d.0 d.1
    (then_mapped items.SupersetOf (given_in records d.0) (given_there records d.0 given d.2))
item_there records tree (items.Meets given) d =
    under records 7 tree d.0 d.1
    (then_mapped items.Meets (given_in records d.0) (given_there records d.0 given d.2))

-- the same of a filter
within : (records : List AttrRec) (number : ℕ) (tree : TreeValue) (inside : TreeValues)
    → tree ≡ Constructed (context number) inside
    → is_some (filter_in records (Constructed (context number) inside)) ≡ true → is_some (filter_in records tree) ≡ true
within records number tree inside is there = subst (λ t. is_some (filter_in records t) ≡ true) (sym is) there

mutual
  filter_there : (records : List AttrRec) (tree : TreeValue) (filter : FilterTree) → DenotesFilter records tree filter
      → is_some (filter_in records tree) ≡ true
  filter_there records tree (OfItem item) d =
      within records 8 tree (Then d.0 Nothing) d.1
      (mapped OfItem (item_in records d.0) (item_there records d.0 item d.2))
  filter_there records tree (And filters) d =
      within records 9 tree d.0 d.1 (mapped And (filters_in records d.0) (filters_there records d.0 filters d.2))
  filter_there records tree (Or filters) d =
      within records 10 tree d.0 d.1 (mapped Or (filters_in records d.0) (filters_there records d.0 filters d.2))
  filter_there records tree (Not filter) d =
      within records 11 tree (Then d.0 Nothing) d.1
      (mapped Not (filter_in records d.0) (filter_there records d.0 filter d.2))

  filters_there : (records : List AttrRec) (trees : TreeValues) (filters : FilterTrees)
      → DenoteFilters records trees filters → is_some (filters_in records trees) ≡ true
  filters_there records trees NoFilters d = subst (λ xs. is_some (filters_in records xs) ≡ true) (sym d) refl
  filters_there records trees (AndFilters filter filters) d =
      subst (λ xs. is_some (filters_in records xs) ≡ true) (sym d.2)
      (both_there AndFilters (filter_in records d.0) (filters_in records d.1)
      (filter_there records d.0 filter d.3) (filters_there records d.1 filters d.4))

pub denoted_filter_is_read : DenotedFilterIsRead
denoted_filter_is_read records tree filter d = some_of (filter_in records tree) (filter_there records tree filter d)

pub no_filter_is_denoted : NoFilterIsDenoted
no_filter_is_denoted records tree clear octets = (
  λ e filter d. false≢true (sym (ap is_some e) ∙ filter_there records tree filter d),
  λ never. none_if (DenotesFilter records tree) (filter_in records tree) (filter_told records tree clear octets) never,
)
