-- One part more has been read: pieces, their values, and filters.
use Rattle.std.proofs.Common.{◌≡◌, List, [], ◌∷◌, ◌++◌, Option, None, Some, refl, ap, sym, append_assoc}
use Rattle.std.specs.Prelude.{option_map}
use Rattle.term_values.specs.Tree.{TreeValue, listed}
use Rattle.term_values.specs.Typed.{TypedValue, TypedValues}
use Rattle.term_values.specs.Typed.TypedValue.{Pick}
use Rattle.term_values.specs.Typed.TypedValues.{Then as AndValues}
use Rattle.term_model.specs.declared.filter_item.Piece.{Piece}
use Rattle.term_model.specs.declared.schema.AttrRec.{AttrRec}
use Rattle.term_model.specs.FilterReading.{filter_in, filters_in, piece_in, pieces_in}
use Rattle.term_model.specs.FilterTrees.{FilterTree, FilterTrees, filters_listed}
use Rattle.term_model.specs.FilterTrees.FilterTrees.{Nothing as NoFilters, Then as AndFilters}
use Rattle.term_model.specs.FilterTruth.{pieces_listed}
use Rattle.ber_values.specs.Left.{values_before}

-- ---- pieces

abbrev pub pieces_before : List Piece → List Piece → List Piece
pieces_before xs rest = xs ++ rest

pieces_pushed : (xs : List Piece) (x : Piece) (rest : Option (List Piece))
    → option_map (pieces_before xs) (option_map (λ pieces. x ∷ pieces) rest)
    ≡ option_map (pieces_before (xs ++ x ∷ [])) rest
pieces_pushed xs x None = refl
pieces_pushed xs x (Some rest) = ap Some (sym (append_assoc xs (x ∷ []) rest))

pub piece_read : (records : List AttrRec) (before : List Piece) (x : TreeValue) (left rest : List TreeValue) (v : Piece)
    → left ≡ x ∷ rest → piece_in records x ≡ Some v
    → option_map (pieces_before before) (pieces_in records (listed left))
    ≡ option_map (pieces_before (before ++ v ∷ [])) (pieces_in records (listed rest))
piece_read records before x left rest v e is = rw (e, is) (pieces_pushed before v (pieces_in records (listed rest)))

pub piece_missing : (records : List AttrRec) (before : List Piece) (x : TreeValue) (left rest : List TreeValue)
    → left ≡ x ∷ rest → piece_in records x ≡ None
    → option_map (pieces_before before) (pieces_in records (listed left)) ≡ None
piece_missing records before x left rest e is = rw (e, is) refl

-- ---- values of pieces

values_pushed : (xs : List TypedValue) (x : TypedValue) (rest : TypedValues)
    → values_before (xs ++ x ∷ []) rest ≡ values_before xs (AndValues x rest)
values_pushed [] x rest = refl
values_pushed (y ∷ ys) x rest = ap (AndValues y) (values_pushed ys x rest)

value_added : (xs : List TypedValue) (x : TypedValue) (rest : Option TypedValues)
    → option_map (values_before xs) (option_map (AndValues x) rest)
    ≡ option_map (values_before (xs ++ x ∷ [])) rest
value_added xs x None = refl
value_added xs x (Some rest) = rw (values_pushed xs x rest) refl

pub value_read : (before : List TypedValue) (x : Piece) (left rest : List Piece) (v : TypedValue) → left ≡ x ∷ rest
    → x.given.value ≡ Some v
    → option_map (values_before before) (pieces_listed left)
    ≡ option_map (values_before (before ++ Pick x.kind v ∷ [])) (pieces_listed rest)
value_read before x left rest v e is = rw (e, is) (value_added before (Pick x.kind v) (pieces_listed rest))

pub value_missing : (before : List TypedValue) (x : Piece) (left rest : List Piece) → left ≡ x ∷ rest
    → x.given.value ≡ None → option_map (values_before before) (pieces_listed left) ≡ None
value_missing before x left rest e is = rw (e, is) refl

-- ---- filters

abbrev pub filters_before : List FilterTree → FilterTrees → FilterTrees
filters_before [] rest = rest
filters_before (x ∷ xs) rest = AndFilters x (filters_before xs rest)

filters_pushed : (xs : List FilterTree) (x : FilterTree) (rest : FilterTrees)
    → filters_before (xs ++ x ∷ []) rest ≡ filters_before xs (AndFilters x rest)
filters_pushed [] x rest = refl
filters_pushed (y ∷ ys) x rest = ap (AndFilters y) (filters_pushed ys x rest)

filter_added : (xs : List FilterTree) (x : FilterTree) (rest : Option FilterTrees)
    → option_map (filters_before xs) (option_map (AndFilters x) rest)
    ≡ option_map (filters_before (xs ++ x ∷ [])) rest
filter_added xs x None = refl
filter_added xs x (Some rest) = rw (filters_pushed xs x rest) refl

pub filter_read : (records : List AttrRec) (before : List FilterTree) (x : TreeValue) (left rest : List TreeValue)
    (v : FilterTree) → left ≡ x ∷ rest → filter_in records x ≡ Some v
    → option_map (filters_before before) (filters_in records (listed left))
    ≡ option_map (filters_before (before ++ v ∷ [])) (filters_in records (listed rest))
filter_read records before x left rest v e is = rw (e, is) (filter_added before v (filters_in records (listed rest)))

pub filter_missing : (records : List AttrRec) (before : List FilterTree) (x : TreeValue) (left rest : List TreeValue)
    → left ≡ x ∷ rest → filter_in records x ≡ None
    → option_map (filters_before before) (filters_in records (listed left)) ≡ None
filter_missing records before x left rest e is = rw (e, is) refl

pub filters_all : (xs : List FilterTree) → filters_before xs NoFilters ≡ filters_listed xs
filters_all [] = refl
filters_all (x ∷ xs) = ap (AndFilters x) (filters_all xs)
