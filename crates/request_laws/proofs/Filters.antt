-- A filter is read where a tree is one by its form: X.711, section 7.5, type CMISFilter.
use Rattle.std.proofs.Common.{◌≡◌, ℕ, List, Bool, true, false, ◌&&◌, ◌||◌, Option, None, Some, refl, sym, ◌∙◌}
use Rattle.std.proofs.Common.{◌∷◌, ap}
use Rattle.std.specs.Prelude.{is_some, option_map, option_and_then}
use Rattle.term_values.specs.Decoding.{denoted}
use Rattle.term_values.specs.Der.{written}
use Rattle.term_values.specs.FilterTrees.{are_attribute_parts, are_filters, are_pieces, is_attribute_id, is_context}
use Rattle.term_values.specs.FilterTrees.{is_filter, is_item, is_one_attribute_id, is_one_filter, is_one_item}
use Rattle.term_values.specs.LeafReading.{where_it}
use Rattle.term_values.specs.Octets.{integer_in}
use Rattle.term_values.specs.Oid.{oid_in}
use Rattle.term_values.specs.Syntaxes.TypeSyntax.{Filter}
use Rattle.term_values.specs.Tree.{TreeValue, TreeValues}
use Rattle.term_values.specs.Tree.TreeValue.{Primitive, Constructed}
use Rattle.term_values.specs.Tree.TreeValues.{Nothing, Then}
use Rattle.term_values.specs.Typed.{TypedValue}
use Rattle.term_values.specs.Typed.TypedValue.{Raw}
use Rattle.term_values.specs.declared.tag.Tag.{Tag}
use Rattle.filter_laws.proofs.Options.{at}
use Rattle.term_model.specs.declared.filter_item.Item.TheVariants as items
use Rattle.term_model.specs.declared.filter_item.Piece.{Piece}
use Rattle.term_model.specs.declared.request.IdRef.TheVariants.{Global, Local}
use Rattle.term_model.specs.declared.schema.AttrRec.{AttrRec}
use Rattle.term_model.specs.Assertions.{attribute_given, given_in, id_in}
use Rattle.term_model.specs.FilterReading.{asked_in, asked_of, assertion_by, filter_in, filters_in, item_in}
use Rattle.term_model.specs.FilterReading.{one_filter_in, one_id_in}
use Rattle.term_model.specs.FilterReading.{one_item_in, piece_in, piece_of, pieces_in, substrings_of}
use Rattle.term_model.specs.FilterTrees.FilterTree.{OfItem, And, Or, Not}
use Rattle.term_model.specs.FilterTrees.FilterTrees.{Then as AndFilters}
use Rattle.request_laws.proofs.Options.{is_both, is_mapped, is_then}

or_nothing : (b : Bool) → b ≡ (b || false)
or_nothing true = refl
or_nothing false = refl

or_nothing_twice : (b : Bool) → b ≡ ((b || false) || false)
or_nothing_twice true = refl
or_nothing_twice false = refl

-- ---- identifiers and attributes

id_is : (x : TreeValue) → is_some (id_in 0 1 x) ≡ is_attribute_id x
id_is (Primitive tag contents) =
    at 0 (λ t. is_some (id_in 0 1 (Primitive t contents)) ≡ is_attribute_id (Primitive t contents)) tag
    (is_mapped Global (oid_in contents) ∙ or_nothing (is_some (oid_in contents)))
    (λ a. at 1 (λ t. is_some (id_in 0 1 (Primitive t contents)) ≡ is_attribute_id (Primitive t contents)) tag
    (is_mapped Local (integer_in contents))
    (λ b. rw (a, b) refl))
id_is (Constructed tag inside) = refl

given_is : (records : List AttrRec) (inside : TreeValues)
    → is_some (given_in records inside) ≡ are_attribute_parts inside
given_is records Nothing = refl
given_is records (Then x Nothing) = refl
given_is records (Then x (Then y Nothing)) =
    is_mapped (λ named. attribute_given records named y) (id_in 0 1 x) ∙ id_is x
given_is records (Then x (Then y (Then z zs))) = refl

-- ---- pieces

abbrev is_piece : TreeValue → Bool
is_piece (Constructed tag inside) =
    ((is_context 0 tag || is_context 1 tag) || is_context 2 tag) && are_attribute_parts inside
is_piece (Primitive tag contents) = false

abbrev PieceIs : List AttrRec → TreeValues → Tag → Type 0
PieceIs records inside tag = is_some (piece_in records (Constructed tag inside)) ≡ is_piece (Constructed tag inside)

of_kind : (records : List AttrRec) (kind : ℕ) (inside : TreeValues)
    → is_some (option_map (piece_of kind) (given_in records inside)) ≡ are_attribute_parts inside
of_kind records kind inside = is_mapped (piece_of kind) (given_in records inside) ∙ given_is records inside

piece_is : (records : List AttrRec) (x : TreeValue) → is_some (piece_in records x) ≡ is_piece x
piece_is records (Primitive tag contents) = refl
piece_is records (Constructed tag inside) =
    at 0 (PieceIs records inside) tag (of_kind records 0 inside)
    (λ a. at 1 (PieceIs records inside) tag (of_kind records 1 inside)
    (λ b. at 2 (PieceIs records inside) tag (of_kind records 2 inside)
    (λ c. rw (a, b, c) refl)))

abbrev before : Piece → List Piece → List Piece
before piece pieces = piece ∷ pieces

pieces_are : (records : List AttrRec) (inside : TreeValues) → is_some (pieces_in records inside) ≡ are_pieces inside
pieces_are records Nothing = refl
pieces_are records (Then (Primitive tag contents) rest) = refl
pieces_are records (Then (Constructed tag inside) rest) =
    is_both before (piece_in records (Constructed tag inside)) (pieces_in records rest)
    ∙ (λ i. piece_is records (Constructed tag inside) i && pieces_are records rest i)

-- ---- items

one_id_is : (inside : TreeValues) → is_some (one_id_in inside) ≡ is_one_attribute_id inside
one_id_is Nothing = refl
one_id_is (Then x Nothing) = id_is x
one_id_is (Then x (Then y ys)) = refl

abbrev ItemIs : List AttrRec → TreeValues → Tag → Type 0
ItemIs records inside tag = is_some (item_in records (Constructed tag inside)) ≡ is_item (Constructed tag inside)

no_item : {A B : Type 0} (f : A → Option B) (o : Option A) → ((x : A) → f x ≡ None)
    → is_some (option_and_then f o) ≡ false
no_item f None law = refl
no_item f (Some x) law = ap is_some (law x)

assertion_is : (records : List AttrRec) (inside : TreeValues)
    → is_some (given_in records inside) ≡ ((are_attribute_parts inside || false) || false)
assertion_is records inside = given_is records inside ∙ or_nothing_twice (are_attribute_parts inside)

item_is : (records : List AttrRec) (x : TreeValue) → is_some (item_in records x) ≡ is_item x
item_is records (Primitive tag contents) = refl
item_is records (Constructed tag inside) =
    at 0 (ItemIs records inside) tag
    (is_then items.Equality (given_in records inside) ∙ assertion_is records inside)
    (λ a. at 1 (ItemIs records inside) tag
    (is_mapped substrings_of (pieces_in records inside)
    ∙ (pieces_are records inside ∙ or_nothing (are_pieces inside)))
    (λ b. at 2 (ItemIs records inside) tag
    (is_then items.GreaterOrEqual (given_in records inside) ∙ assertion_is records inside)
    (λ c. at 3 (ItemIs records inside) tag
    (is_then items.LessOrEqual (given_in records inside) ∙ assertion_is records inside)
    (λ d. at 4 (ItemIs records inside) tag
    (is_mapped items.Present (one_id_in inside) ∙ one_id_is inside)
    (λ e. at 5 (ItemIs records inside) tag
    (is_then items.SubsetOf (given_in records inside) ∙ assertion_is records inside)
    (λ f. at 6 (ItemIs records inside) tag
    (is_then items.SupersetOf (given_in records inside) ∙ assertion_is records inside)
    (λ g. at 7 (ItemIs records inside) tag
    (is_then items.Meets (given_in records inside) ∙ assertion_is records inside)
    (λ h. rw (a, b, c, d, e, f, g, h)
    (no_item (assertion_by tag) (given_in records inside) (λ x. rw (a, c, d, f, g, h) refl))))))))))

one_item_is : (records : List AttrRec) (inside : TreeValues)
    → is_some (one_item_in records inside) ≡ is_one_item inside
one_item_is records Nothing = refl
one_item_is records (Then x Nothing) = item_is records x
one_item_is records (Then x (Then y ys)) = refl

-- ---- filters

abbrev FilterIs : List AttrRec → TreeValues → Tag → Type 0
FilterIs records inside tag =
    is_some (filter_in records (Constructed tag inside)) ≡ is_filter (Constructed tag inside)

mutual
  filter_is : (records : List AttrRec) (x : TreeValue) → is_some (filter_in records x) ≡ is_filter x
  filter_is records (Primitive tag contents) = refl
  filter_is records (Constructed tag inside) =
      at 8 (FilterIs records inside) tag
      (is_mapped OfItem (one_item_in records inside)
      ∙ (one_item_is records inside ∙ or_nothing_twice (is_one_item inside)))
      (λ a. at 9 (FilterIs records inside) tag
      (is_mapped And (filters_in records inside) ∙ (filters_are records inside ∙ or_nothing (are_filters inside)))
      (λ b. at 10 (FilterIs records inside) tag
      (is_mapped Or (filters_in records inside) ∙ (filters_are records inside ∙ or_nothing (are_filters inside)))
      (λ c. at 11 (FilterIs records inside) tag
      (is_mapped Not (one_filter_in records inside) ∙ one_filter_is records inside)
      (λ d. rw (a, b, c, d) refl))))

  filters_are : (records : List AttrRec) (inside : TreeValues)
      → is_some (filters_in records inside) ≡ are_filters inside
  filters_are records Nothing = refl
  filters_are records (Then x xs) =
      is_both AndFilters (filter_in records x) (filters_in records xs)
      ∙ (λ i. filter_is records x i && filters_are records xs i)

  one_filter_is : (records : List AttrRec) (inside : TreeValues)
      → is_some (one_filter_in records inside) ≡ is_one_filter inside
  one_filter_is records Nothing = refl
  one_filter_is records (Then x Nothing) = filter_is records x
  one_filter_is records (Then x (Then y ys)) = refl

where_some : (b : Bool) (v : TypedValue) → is_some (where_it b v) ≡ b
where_some true v = refl
where_some false v = refl

pub filter_same : (records : List AttrRec) (x : TreeValue)
    → is_some (asked_in records x) ≡ is_some (denoted false Filter x)
filter_same records x =
    is_mapped (asked_of records (written x)) (filter_in records x)
    ∙ (filter_is records x ∙ sym (where_some (is_filter x) (Raw (written x))))
