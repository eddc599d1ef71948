-- A tree gives a filter exactly where it is one by its form.
use Rattle.std.proofs.Common.{◌≡◌, ℕ, List, refl, ◌∙◌}
use Rattle.std.specs.Prelude.{◌∷◌, ◌&&◌, is_some, option_map, option_and_then}
use Rattle.term_values.specs.FilterTrees.{are_attribute_parts, are_filters, are_pieces, is_attribute_id}
use Rattle.term_values.specs.FilterTrees.{is_filter, is_item, is_one_attribute_id, is_one_filter, is_one_item}
use Rattle.term_values.specs.Octets.{integer_in}
use Rattle.term_values.specs.Oid.{oid_in}
use Rattle.term_values.specs.Tree.{TreeValue, TreeValues}
use Rattle.term_values.specs.Tree.TreeValue.{Primitive, Constructed}
use Rattle.term_values.specs.Tree.TreeValues.{Nothing, Then}
use Rattle.term_values.specs.declared.tag.Tag.{Tag}
use Rattle.term_model.specs.declared.filter_item.Item.TheVariants as items
use Rattle.term_model.specs.declared.filter_item.Piece.{Piece}
use Rattle.term_model.specs.declared.request.IdRef.TheVariants.{Global, Local}
use Rattle.term_model.specs.declared.schema.AttrRec.{AttrRec}
use Rattle.term_model.specs.Assertions.{attribute_given, given_in, id_in}
use Rattle.term_model.specs.FilterReading.{assertion_by, filter_in, filters_in, item_in, one_filter_in, one_id_in, one_item_in}
use Rattle.term_model.specs.FilterReading.{piece_of, pieces_in, substrings_of}
use Rattle.term_model.specs.FilterTrees.FilterTree.{OfItem, And, Or, Not}
use Rattle.term_model.specs.FilterTrees.FilterTrees.{Then as AndFilters}
use Rattle.cmis_filter.proofs.TagTests.{at, both_mapped, both_some, mapped, or_nothing, or_nothing_twice, then_mapped}
use Rattle.cmis_filter.proofs.TagTests.{then_nothing}

abbrev IdForm : List ℕ → Tag → Type 0
IdForm contents tag = is_some (id_in 0 1 (Primitive tag contents)) ≡ is_attribute_id (Primitive tag contents)

id_form : (x : TreeValue) → is_some (id_in 0 1 x) ≡ is_attribute_id x
id_form (Primitive tag contents) =
    at 0 (IdForm contents) tag (mapped Global (oid_in contents) ∙ or_nothing (is_some (oid_in contents)))
    (λ a. at 1 (IdForm contents) tag (mapped Local (integer_in contents)) (λ b. rw (a, b) refl))
id_form (Constructed tag inside) = refl

given_form : (records : List AttrRec) (xs : TreeValues) → is_some (given_in records xs) ≡ are_attribute_parts xs
given_form records Nothing = refl
given_form records (Then id Nothing) = refl
given_form records (Then id (Then value Nothing)) =
    mapped (λ named. attribute_given records named value) (id_in 0 1 id) ∙ id_form id
given_form records (Then id (Then value (Then more others))) = refl

abbrev PiecesForm : List AttrRec → TreeValues → TreeValues → Tag → Type 0
PiecesForm records inside rest tag =
    is_some (pieces_in records (Then (Constructed tag inside) rest)) ≡ are_pieces (Then (Constructed tag inside) rest)

abbrev before : Piece → List Piece → List Piece
before piece pieces = piece ∷ pieces

piece_of_kind : (records : List AttrRec) (kind : ℕ) (inside rest : TreeValues)
    → is_some (given_in records inside) ≡ are_attribute_parts inside
    → is_some (pieces_in records rest) ≡ are_pieces rest
    → is_some (option_and_then (λ piece. option_map (before piece) (pieces_in records rest))
    (option_map (piece_of kind) (given_in records inside))) ≡ (are_attribute_parts inside && are_pieces rest)
piece_of_kind records kind inside rest first others =
    both_mapped (piece_of kind) before (given_in records inside) (pieces_in records rest) ∙ (λ i. first i && others i)

pieces_form : (records : List AttrRec) (xs : TreeValues) → is_some (pieces_in records xs) ≡ are_pieces xs
pieces_form records Nothing = refl
pieces_form records (Then (Primitive tag contents) rest) = refl
pieces_form records (Then (Constructed tag inside) rest) =
    let G = PiecesForm records inside rest in
    let of_kind = λ (kind : ℕ). piece_of_kind records kind inside rest (given_form records inside) (pieces_form records
    rest) in
    at 0 G tag (of_kind 0) (λ a. at 1 G tag (of_kind 1) (λ b. at 2 G tag (of_kind 2) (λ c. rw (a, b, c) refl)))

one_id_form : (xs : TreeValues) → is_some (one_id_in xs) ≡ is_one_attribute_id xs
one_id_form Nothing = refl
one_id_form (Then x Nothing) = id_form x
one_id_form (Then x (Then y ys)) = refl

abbrev ItemForm : List AttrRec → TreeValues → Tag → Type 0
ItemForm records inside tag = is_some (item_in records (Constructed tag inside)) ≡ is_item (Constructed tag inside)

item_form : (records : List AttrRec) (x : TreeValue) → is_some (item_in records x) ≡ is_item x
item_form records (Primitive tag contents) = refl
item_form records (Constructed tag inside) =
    let G = ItemForm records inside in
    let given = given_in records inside in
    let parts = given_form records inside ∙ or_nothing_twice (are_attribute_parts inside) in
    at 1 G tag (mapped substrings_of (pieces_in records inside) ∙ (pieces_form records inside ∙ or_nothing (are_pieces
    inside)))
    (λ a. at 4 G tag (mapped items.Present (one_id_in inside) ∙ one_id_form inside)
    (λ b. at 0 G tag (then_mapped items.Equality given ∙ parts)
    (λ c. at 2 G tag (then_mapped items.GreaterOrEqual given ∙ parts)
    (λ d. at 3 G tag (then_mapped items.LessOrEqual given ∙ parts)
    (λ e. at 5 G tag (then_mapped items.SubsetOf given ∙ parts)
    (λ f. at 6 G tag (then_mapped items.SupersetOf given ∙ parts)
    (λ g. at 7 G tag (then_mapped items.Meets given ∙ parts)
    (λ h. rw (a, b, c, d, e, f, g, h) (then_nothing (assertion_by tag) given (λ x. rw (c, d, e, f, g, h) refl))))))))))

one_item_form : (records : List AttrRec) (xs : TreeValues) → is_some (one_item_in records xs) ≡ is_one_item xs
one_item_form records Nothing = refl
one_item_form records (Then x Nothing) = item_form records x
one_item_form records (Then x (Then y ys)) = refl

abbrev FilterForm : List AttrRec → TreeValues → Tag → Type 0
FilterForm records inside tag =
    is_some (filter_in records (Constructed tag inside)) ≡ is_filter (Constructed tag inside)

mutual
  pub filter_form : (records : List AttrRec) (x : TreeValue) → is_some (filter_in records x) ≡ is_filter x
  filter_form records (Primitive tag contents) = refl
  filter_form records (Constructed tag inside) =
      let G = FilterForm records inside in
      let joined = filters_form records inside ∙ or_nothing (are_filters inside) in
      at 8 G tag (mapped OfItem (one_item_in records inside) ∙ (one_item_form records inside ∙ or_nothing_twice
      (is_one_item inside)))
      (λ a. at 9 G tag (mapped And (filters_in records inside) ∙ joined)
      (λ b. at 10 G tag (mapped Or (filters_in records inside) ∙ joined)
      (λ c. at 11 G tag (mapped Not (one_filter_in records inside) ∙ one_form records inside)
      (λ d. rw (a, b, c, d) refl))))

  filters_form : (records : List AttrRec) (xs : TreeValues) → is_some (filters_in records xs) ≡ are_filters xs
  filters_form records Nothing = refl
  filters_form records (Then x xs) =
      both_some AndFilters (filter_in records x) (filters_in records xs)
      ∙ (λ i. filter_form records x i && filters_form records xs i)

  one_form : (records : List AttrRec) (xs : TreeValues) → is_some (one_filter_in records xs) ≡ is_one_filter xs
  one_form records Nothing = refl
  one_form records (Then x Nothing) = filter_form records x
  one_form records (Then x (Then y ys)) = refl
