-- Which attributes of a log the mandatory packages of classes have, by label and syntax: X.721, class log;
-- docs/PROFILE.md.
use Rattle.std.specs.Prelude.{ℕ, List, [], Bool, ◌&&◌, codes}
use Rattle.std.specs.List.{list_all, list_any}
use Rattle.term_values.specs.Syntaxes.{TypeSyntax}
use Rattle.term_values.specs.Syntaxes.TypeSyntax.{Filter}
use Rattle.term_model.specs.declared.schema.Set.{Set}
use Rattle.term_model.specs.BoundClasses.{have_attribute}
use Rattle.term_model.specs.ControlSyntaxes.{administrative_state, availability_status, from_zero, top_attributes}
use Rattle.term_model.specs.ControlSyntaxes.{log_full_action, operational_state, simple_name}
use Rattle.term_model.specs.PresentPackages.{packages_by}

-- the mandatory packages of these classes have an attribute of this label and syntax
unfoldable pub classes_have : Set → List (List ℕ) → List ℕ → TypeSyntax → Bool
classes_have schema classes label syntax =
    list_any
    (λ (class : List ℕ). have_attribute schema.attributes (packages_by schema.classes [] class) (label, syntax)) classes

-- those of top
abbrev pub have_of_top : Set → List (List ℕ) → Bool
have_of_top schema classes =
    list_all (λ (wanted : List ℕ × TypeSyntax). classes_have schema classes wanted.0 wanted.1) top_attributes

-- numberOfRecords, and those of top
unfoldable pub have_count_of_log : Set → List (List ℕ) → Bool
have_count_of_log schema classes =
    classes_have schema classes (codes "numberOfRecords") from_zero && have_of_top schema classes

-- and the sizes of a log
unfoldable pub have_sizes_of_log : Set → List (List ℕ) → Bool
have_sizes_of_log schema classes =
    classes_have schema classes (codes "maxLogSize") from_zero
    && (classes_have schema classes (codes "currentLogSize") from_zero && have_count_of_log schema classes)

-- and what tells that it is full
unfoldable pub have_status_of_log : Set → List (List ℕ) → Bool
have_status_of_log schema classes =
    classes_have schema classes (codes "availabilityStatus") availability_status
    && (classes_have schema classes (codes "logFullAction") log_full_action && have_sizes_of_log schema classes)

-- and its states
unfoldable pub have_states_of_log : Set → List (List ℕ) → Bool
have_states_of_log schema classes =
    classes_have schema classes (codes "administrativeState") administrative_state
    && (classes_have schema classes (codes "operationalState") operational_state && have_status_of_log schema classes)

-- and its name and its filter: all
unfoldable pub have_all_of_log : Set → List (List ℕ) → Bool
have_all_of_log schema classes =
    classes_have schema classes (codes "logId") simple_name
    && (classes_have schema classes (codes "discriminatorConstruct") Filter && have_states_of_log schema classes)
