-- The parts of names that the agent chooses: X.722, section 8.6, WITH-AUTOMATIC-INSTANCE-NAMING; docs/PROFILE.md,
-- section 15. They are whole numbers from 1 on.
use Rattle.std.specs.Prelude.{ℕ, zero, suc, pos, List, [], ◌∷◌, ◌++◌, Bool, true, false, ◌&&◌, not, Option, None, Some}
use Rattle.std.specs.Prelude.{is_some, option_and_then, if◌then◌else◌}
use Rattle.std.specs.Option.{option_map}
use Rattle.term_values.specs.FitTest.{value_fits}
use Rattle.term_values.specs.Syntaxes.{TypeSyntax, TypeParts}
use Rattle.term_values.specs.Syntaxes.TypeParts.{NoParts, Part}
use Rattle.term_values.specs.Syntaxes.TypeSyntax.{Choice, Integer, Tagged}
use Rattle.term_values.specs.Typed.{TypedValue}
use Rattle.term_values.specs.Typed.TypedValue.{Int, Pick}
use Rattle.term_values.specs.Written.{der}
use Rattle.term_model.specs.declared.name.Rdn.{Rdn}
use Rattle.term_model.specs.declared.objects.NamedObject.{NamedObject}
use Rattle.term_model.specs.declared.schema.Set.{Set}
use Rattle.term_model.specs.ClassAttributes.{syntax_of}
use Rattle.term_model.specs.LogRecords.{is_whole_number}
use Rattle.term_model.specs.NamedObjects.{object_at}

-- the index of the first alternative that is INTEGER, under any tags, behind so many others
abbrev pub integer_alternative : ℕ → TypeParts → Option ℕ
integer_alternative index NoParts = None
integer_alternative index (Part name syntax optional default rest) =
    if is_whole_number syntax then Some index else integer_alternative (suc index) rest

-- how numbers are values of INTEGER, or of a CHOICE that has an INTEGER, under any tags; other types have none
abbrev pub number_values : TypeSyntax → Option (ℕ → TypedValue)
number_values (Integer names ranges) = Some (λ n. Int (pos n))
number_values (Choice parts) = option_map (λ index n. Pick index (Int (pos n))) (integer_alternative 0 parts)
number_values (Tagged tag explicit of) = number_values of
number_values _ = None

-- the part of a name with a value of the attribute
abbrev pub part_with : List ℕ → TypeSyntax → TypedValue → Rdn
part_with attribute syntax value = record { attribute = attribute; value = der syntax value }

-- the value fits the attribute's syntax, and no object has the part for its last one
abbrev pub is_free_value : (Rdn → Bool) → List ℕ → TypeSyntax → TypedValue → Bool
is_free_value is_taken attribute syntax value =
    value_fits syntax value && not (is_taken (part_with attribute syntax value))

-- the least of a number and so many behind it of which something holds; of the first one it holds or doesn't
abbrev pub least_by : Bool → (ℕ → Bool) → ℕ → ℕ → Option ℕ
least_by true holds others first = Some first
least_by false holds zero first = None
least_by false holds (suc others) first = least_by (holds (suc first)) holds others (suc first)

abbrev pub least_from : (ℕ → Bool) → ℕ → ℕ → Option ℕ
least_from holds others first = least_by (holds first) holds others first

-- the least number from 1 that is free and fits; values are numbers up to 2^63 - 1
abbrev pub least_free_number : (Rdn → Bool) → List ℕ → TypeSyntax → (ℕ → TypedValue) → Option ℕ
least_free_number is_taken attribute syntax values =
    least_from (λ n. is_free_value is_taken attribute syntax (values n)) 9223372036854775806 1

-- the part with this number
abbrev pub chosen_among : (Rdn → Bool) → List ℕ → TypeSyntax → (ℕ → TypedValue) → Option Rdn
chosen_among is_taken attribute syntax values =
    option_map (λ n. part_with attribute syntax (values n)) (least_free_number is_taken attribute syntax values)

abbrev pub chosen_of_syntax : (Rdn → Bool) → List ℕ → TypeSyntax → Option Rdn
chosen_of_syntax is_taken attribute syntax =
    option_and_then (chosen_among is_taken attribute syntax) (number_values syntax)

-- the part that the agent chooses for a name by the attribute, where there is one
abbrev pub chosen_part : Set → (Rdn → Bool) → List ℕ → Option Rdn
chosen_part schema is_taken attribute =
    option_and_then (chosen_of_syntax is_taken attribute) (syntax_of schema.attributes attribute)

-- an object directly below the superior has the part for its last one
abbrev pub is_taken_below : List NamedObject → List Rdn → Rdn → Bool
is_taken_below objects superior part = is_some (object_at objects (superior ++ part ∷ []))
