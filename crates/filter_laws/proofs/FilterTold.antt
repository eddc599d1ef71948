-- The filter that is read is one that its tree denotes.
use Rattle.std.proofs.Common.{ℕ, List, ◌∷◌, refl, arith}
use Rattle.std.specs.Prelude.{◌≤◌, IfSome, option_and_then, option_map}
use Rattle.term_values.specs.Tag.{context}
use Rattle.term_values.specs.Tree.{TreeValue, TreeValues}
use Rattle.term_values.specs.Tree.TreeValue.{Primitive, Constructed}
use Rattle.term_values.specs.Tree.TreeValues.{Nothing, Then}
use Rattle.term_values.specs.declared.tag.Tag.{Tag}
use Rattle.typed_laws.specs.TreeOctets.{HasOctets, HaveOctets}
use Rattle.term_model.specs.declared.filter_item.Item.TheVariants as items
use Rattle.term_model.specs.declared.filter_item.Piece.{Piece}
use Rattle.term_model.specs.declared.schema.AttrRec.{AttrRec}
use Rattle.term_model.specs.Assertions.{IsIdRef, given_in}
use Rattle.term_model.specs.FilterDenoting.{DenoteFilters, DenoteGiven, DenotePieces, DenotesFilter, DenotesGiven}
use Rattle.term_model.specs.FilterDenoting.{DenotesItem}
use Rattle.term_model.specs.FilterReading.{assertion_by, filter_in, filters_in, item_in, one_filter_in, one_id_in, one_item_in}
use Rattle.term_model.specs.FilterReading.{piece_of, pieces_in, substrings_of}
use Rattle.term_model.specs.FilterTrees.FilterTree.{OfItem, And, Or, Not}
use Rattle.term_model.specs.FilterTrees.FilterTrees.{Then as AndFilters}
use Rattle.filter_laws.specs.DenotingLaws.{AreClear, FilterIsDenoted}
use Rattle.filter_laws.proofs.GivenTold.{given_told}
use Rattle.filter_laws.proofs.IdTold.{id_told}
use Rattle.filter_laws.proofs.Options.{at, if_both, if_mapped, if_nothing, if_then, there}

abbrev before : Piece → List Piece → List Piece
before piece pieces = piece ∷ pieces

abbrev PieceTold : List AttrRec → TreeValue → Piece → Type 0
PieceTold records tree piece = (piece.kind ≤ 2) × DenotesGiven piece.kind records tree piece.given

kind_told : (records : List AttrRec) (kind : ℕ) (inside rest : TreeValues) → kind ≤ 2
    → IfSome (given_in records inside) (DenoteGiven records inside)
    → IfSome (pieces_in records rest) (DenotePieces records rest)
    → IfSome (option_and_then (λ piece. option_map (before piece) (pieces_in records rest))
    (option_map (piece_of kind) (given_in records inside)))
    (DenotePieces records (Then (Constructed (context kind) inside) rest))
kind_told records kind inside rest small first others =
    if_both (PieceTold records (Constructed (context kind) inside)) (DenotePieces records rest)
    (DenotePieces records (Then (Constructed (context kind) inside) rest)) before
    (option_map (piece_of kind) (given_in records inside)) (pieces_in records rest)
    (if_mapped (DenoteGiven records inside) (PieceTold records (Constructed (context kind) inside)) (piece_of kind)
    (given_in records inside) first (λ given q. (small, (inside, refl, q))))
    others
    (λ piece pieces q r. (Constructed (context kind) inside, rest, refl, q.0, q.1, r))

abbrev PiecesAt : List AttrRec → TreeValues → TreeValues → Tag → Type 0
PiecesAt records inside rest tag =
    IfSome (pieces_in records (Then (Constructed tag inside) rest))
    (DenotePieces records (Then (Constructed tag inside) rest))

pieces_told : (records : List AttrRec) (trees : TreeValues) → AreClear records → HaveOctets trees
    → IfSome (pieces_in records trees) (DenotePieces records trees)
pieces_told records Nothing clear octets = refl
pieces_told records (Then (Primitive tag contents) rest) clear octets = tt
pieces_told records (Then (Constructed tag inside) rest) clear octets =
    let G = PiecesAt records inside rest in
    let first = given_told records inside clear octets.0 in
    let others = pieces_told records rest clear octets.1 in
    at 0 G tag (kind_told records 0 inside rest (omega arith) first others)
    (λ a. at 1 G tag (kind_told records 1 inside rest (omega arith) first others)
    (λ b. at 2 G tag (kind_told records 2 inside rest (omega arith) first others) (λ c. rw (a, b, c) tt)))

abbrev ItemAt : List AttrRec → TreeValues → Tag → Type 0
ItemAt records inside tag =
    IfSome (item_in records (Constructed tag inside)) (DenotesItem records (Constructed tag inside))

present_told : (records : List AttrRec) (inside : TreeValues) → HaveOctets inside
    → IfSome (option_map items.Present (one_id_in inside)) (DenotesItem records (Constructed (context 4) inside))
present_told records Nothing octets = tt
present_told records (Then x Nothing) octets =
    if_mapped (IsIdRef 0 1 x) (DenotesItem records (Constructed (context 4) (Then x Nothing))) items.Present
    (one_id_in (Then x Nothing)) (id_told 0 1 x octets.0) (λ id q. (x, refl, q))
present_told records (Then x (Then y ys)) octets = tt

item_told : (records : List AttrRec) (tree : TreeValue) → AreClear records → HasOctets tree
    → IfSome (item_in records tree) (DenotesItem records tree)
item_told records (Primitive tag contents) clear octets = tt
item_told records (Constructed tag inside) clear octets =
    let G = ItemAt records inside in
    let P = λ (number : ℕ). DenotesItem records (Constructed (context number) inside) in
    let given = given_in records inside in
    let Q = DenoteGiven records inside in
    let told = given_told records inside clear octets in
    at 1 G tag
    (if_mapped (DenotePieces records inside) (P 1) substrings_of (pieces_in records inside)
    (pieces_told records inside clear octets) (λ pieces q. (inside, refl, q, refl)))
    (λ a. at 4 G tag (present_told records inside octets)
    (λ b. at 0 G tag (if_then Q (P 0) items.Equality given told (λ x q. (inside, refl, q)))
    (λ c. at 2 G tag (if_then Q (P 2) items.GreaterOrEqual given told (λ x q. (inside, refl, q)))
    (λ d. at 3 G tag (if_then Q (P 3) items.LessOrEqual given told (λ x q. (inside, refl, q)))
    (λ e. at 5 G tag (if_then Q (P 5) items.SubsetOf given told (λ x q. (inside, refl, q)))
    (λ f. at 6 G tag (if_then Q (P 6) items.SupersetOf given told (λ x q. (inside, refl, q)))
    (λ g. at 7 G tag (if_then Q (P 7) items.Meets given told (λ x q. (inside, refl, q)))
    (λ h. rw (a, b) (if_nothing (DenotesItem records (Constructed tag inside)) (assertion_by tag) given
    (λ x. rw (c, d, e, f, g, h) refl))))))))))

one_item_told : (records : List AttrRec) (inside : TreeValues) → AreClear records → HaveOctets inside
    → IfSome (option_map OfItem (one_item_in records inside)) (DenotesFilter records (Constructed (context 8) inside))
one_item_told records Nothing clear octets = tt
one_item_told records (Then x Nothing) clear octets =
    if_mapped (DenotesItem records x) (DenotesFilter records (Constructed (context 8) (Then x Nothing))) OfItem
    (item_in records x) (item_told records x clear octets.0) (λ item q. (x, refl, q))
one_item_told records (Then x (Then y ys)) clear octets = tt

abbrev FilterAt : List AttrRec → TreeValues → Tag → Type 0
FilterAt records inside tag =
    IfSome (filter_in records (Constructed tag inside)) (DenotesFilter records (Constructed tag inside))

mutual
  pub filter_told : (records : List AttrRec) (tree : TreeValue) → AreClear records → HasOctets tree
      → IfSome (filter_in records tree) (DenotesFilter records tree)
  filter_told records (Primitive tag contents) clear octets = tt
  filter_told records (Constructed tag inside) clear octets =
      let G = FilterAt records inside in
      let P = λ (number : ℕ). DenotesFilter records (Constructed (context number) inside) in
      let Q = DenoteFilters records inside in
      at 8 G tag (one_item_told records inside clear octets)
      (λ a. at 9 G tag (if_mapped Q (P 9) And (filters_in records inside) (filters_told records inside clear octets)
      (λ x q. (inside, refl, q)))
      (λ b. at 10 G tag (if_mapped Q (P 10) Or (filters_in records inside) (filters_told records inside clear octets)
      (λ x q. (inside, refl, q)))
      (λ c. at 11 G tag (one_filter_told records inside clear octets)
      (λ d. rw (a, b, c, d) tt))))

  filters_told : (records : List AttrRec) (trees : TreeValues) → AreClear records → HaveOctets trees
      → IfSome (filters_in records trees) (DenoteFilters records trees)
  filters_told records Nothing clear octets = refl
  filters_told records (Then x xs) clear octets =
      if_both (DenotesFilter records x) (DenoteFilters records xs) (DenoteFilters records (Then x xs)) AndFilters
      (filter_in records x) (filters_in records xs) (filter_told records x clear octets.0)
      (filters_told records xs clear octets.1) (λ f fs q r. (x, xs, refl, q, r))

  one_filter_told : (records : List AttrRec) (inside : TreeValues) → AreClear records → HaveOctets inside
      → IfSome (option_map Not (one_filter_in records inside)) (DenotesFilter records (Constructed (context 11) inside))
  one_filter_told records Nothing clear octets = tt
  one_filter_told records (Then x Nothing) clear octets =
      if_mapped (DenotesFilter records x) (DenotesFilter records (Constructed (context 11) (Then x Nothing))) Not
      (filter_in records x) (filter_told records x clear octets.0) (λ f q. (x, refl, q))
  one_filter_told records (Then x (Then y ys)) clear octets = tt

pub filter_is_denoted : FilterIsDenoted
filter_is_denoted records tree filter clear octets is =
    there (DenotesFilter records tree) (filter_in records tree) filter (filter_told records tree clear octets) is
