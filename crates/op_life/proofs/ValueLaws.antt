-- The members of a list that don't say that a log is full; an attribute that has a value, or lacks one.
use Rattle.std.proofs.Common.{◌≡◌, ℕ, ◌≤◌, List, [], ◌∷◌, ◌++◌, Bool, true, false, refl, ap, sym, ◌∙◌}
use Rattle.std.proofs.Common.{append_assoc}
use Rattle.std.proofs.Common.{arith, drop, length, length-drop, take}
use Rattle.std.specs.Prelude.{filter, filter_map, is_none, not, Option, None, Some, if◌then◌else◌}
use Rattle.std.specs.List.{cons_option}
use Rattle.std.specs.Option.{option_map}
use Rattle.std.proofs.Math.Seq.{take-length}
use Rattle.std.proofs.lemmas.List.{append-nil, nil_from_length, take_min}
use Rattle.term_values.specs.Typed.{TypedValue, TypedValues, listed}
use Rattle.term_values.specs.Typed.TypedValues.{Then}
use Rattle.term_model.specs.declared.creation.Creation.{Creation}
use Rattle.term_model.specs.declared.creation.Outline.{Outline}
use Rattle.term_model.specs.declared.object.Attribute.{Attribute}
use Rattle.term_model.specs.declared.schema.Set.{Set}
use Rattle.term_model.specs.CreateSteps.{created_attribute}
use Rattle.term_model.specs.CreateValues.{created_value, is_log_full, without_full}
use Rattle.op_life.specs.declared.created_values.Filled.{Filled}
use Rattle.op_life.specs.Filling.{all_filled, fill_one, fill_rest, unfilled}

left_by : (full : Bool) (x : TypedValue) (xs : List TypedValue) (rest : TypedValues) → listed xs ≡ rest
    → listed (if not full then x ∷ xs else xs) ≡ (if full then rest else Then x rest)
left_by true x xs rest e = e
left_by false x xs rest e = ap (Then x) e

pub left_are_listed : (xs : List TypedValue)
    → listed (filter (λ (x : TypedValue). not (is_log_full x)) xs) ≡ without_full (listed xs)
left_are_listed [] = refl
left_are_listed (x ∷ xs) =
    left_by (is_log_full x) x (filter (λ (y : TypedValue). not (is_log_full y)) xs) (without_full (listed xs))
    (left_are_listed xs)

-- lists that are gone through
whole : {X : Type 0} (xs : List X) (i : ℕ) → length xs ≤ i → take i xs ≡ xs
whole xs i past = sym (take_min i xs) ∙ (ap (λ k. take k xs) (omega (arith, past)) ∙ take-length xs)

pub left_at_end : (values : List TypedValue) (i : ℕ) (left : List TypedValue)
    → left ≡ filter (λ (x : TypedValue). not (is_log_full x)) (take i values) → length values ≤ i
    → listed left ≡ without_full (listed values)
left_at_end values i left e past =
    ap listed (e ∙ ap (filter (λ (x : TypedValue). not (is_log_full x))) (whole values i past)) ∙ left_are_listed values

-- what is added to the attributes so far
filled_by : (before : Filled) (id : List ℕ) (value : Option TypedValue) (lacking : List (List ℕ))
    (held : List Attribute) (after : Filled)
    → after
    ≡ record {
      missing = (fill_one before id value).missing ++ lacking;
      attrs = (fill_one before id value).attrs ++ held;
    }
    → after
    ≡ record {
      missing = before.missing ++ (if is_none value then id ∷ lacking else lacking);
      attrs =
          before.attrs ++ cons_option (option_map (λ x. record { id = id; value = x }) value) held;
    }
filled_by before id None lacking held after e =
    e ∙ ap
    (λ (ids : List (List ℕ)). record { missing = ids; attrs = before.attrs ++ held })
    (append_assoc before.missing (id ∷ []) lacking)
filled_by before id (Some value) lacking held after e =
    e ∙ ap
    (λ (attributes : List Attribute). record { missing = before.missing ++ lacking; attrs = attributes })
    (append_assoc before.attrs (record { id = id; value = value } ∷ []) held)

rest_is_filled : (schema : Set) (creation : Creation) (outline : Outline) (before : Filled) (ids : List (List ℕ))
    → fill_rest schema creation outline before ids
    ≡ record {
      missing = before.missing ++ filter (λ id. is_none (created_value schema creation outline id)) ids;
      attrs = before.attrs ++ filter_map (created_attribute schema creation outline) ids;
    }
rest_is_filled schema creation outline before [] =
    ap (λ (ids : List (List ℕ)). record { missing = ids; attrs = before.attrs }) (sym (append-nil before.missing))
    ∙ ap
    (λ (attributes : List Attribute). record { missing = before.missing ++ []; attrs = attributes })
    (sym (append-nil before.attrs))
rest_is_filled schema creation outline before (id ∷ ids) =
    filled_by before id (created_value schema creation outline id)
    (filter (λ one. is_none (created_value schema creation outline one)) ids)
    (filter_map (created_attribute schema creation outline) ids) _
    (rest_is_filled schema creation outline (fill_one before id (created_value schema creation outline id)) ids)

none_left : {X : Type 0} (xs : List X) (i : ℕ) → length xs ≤ i → drop i xs ≡ []
none_left xs i past = nil_from_length (drop i xs) (omega (arith, past, length-drop i xs))

pub all_are_filled : (schema : Set) (creation : Creation) (outline : Outline) (filled : Filled) (ids : List (List ℕ))
    (i : ℕ) → ids ≡ outline.attributes → length ids ≤ i
    → fill_rest schema creation outline filled (drop i ids) ≡ fill_rest schema creation outline unfilled ids
    → filled ≡ all_filled schema creation outline
all_are_filled schema creation outline filled ids i same past e =
    sym (ap (fill_rest schema creation outline filled) (none_left ids i past)) ∙ e
    ∙ ap (fill_rest schema creation outline unfilled) same
    ∙ rest_is_filled schema creation outline unfilled outline.attributes
