-- The attributes of an object that is created, one after the other: those that lack a value, and the others.
use Rattle.std.specs.Prelude.{ℕ, List, [], ◌∷◌, ◌++◌, filter_map, Option, None, Some}
use Rattle.term_values.specs.Typed.{TypedValue}
use Rattle.term_model.specs.declared.creation.Creation.{Creation}
use Rattle.term_model.specs.declared.creation.Outline.{Outline}
use Rattle.term_model.specs.declared.schema.Set.{Set}
use Rattle.term_model.specs.CreateSteps.{created_attribute, missing_ids}
use Rattle.term_model.specs.CreateValues.{created_value}
use Rattle.op_life.specs.declared.created_values.Filled.{Filled}

-- with one attribute more, and the value that it may have
abbrev pub fill_one : Filled → List ℕ → Option TypedValue → Filled
fill_one before id None = record { missing = before.missing ++ id ∷ []; attrs = before.attrs }
fill_one before id (Some value) = record {
  missing = before.missing;
  attrs = before.attrs ++ record { id = id; value = value } ∷ [];
}

abbrev pub fill_rest : Set → Creation → Outline → Filled → List (List ℕ) → Filled
fill_rest schema creation outline before [] = before
fill_rest schema creation outline before (id ∷ others) =
    fill_rest schema creation outline (fill_one before id (created_value schema creation outline id)) others

-- none so far
abbrev pub unfilled : Filled
unfilled = record { missing = []; attrs = [] }

abbrev pub all_filled : Set → Creation → Outline → Filled
all_filled schema creation outline = record {
  missing = missing_ids schema creation outline;
  attrs = filter_map (created_attribute schema creation outline) outline.attributes;
}
