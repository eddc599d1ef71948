-- What the mandatory packages of classes have.
use Rattle.std.proofs.Common.{◌≡◌, ℕ, false, List, [], ◌∷◌, ◌++◌, Option, None, Some, refl, ap, sym, ◌∙◌}
use Rattle.std.specs.Prelude.{◌||◌, filter, flat_map, if◌then◌else◌}
use Rattle.std.specs.List.{list_all}
use Rattle.std.specs.Option.{option_map_or}
use Rattle.std.proofs.lemmas.List.{append-nil}
use Rattle.std.proofs.lemmas.List.Folds.{list_any-append}
use Rattle.term_values.specs.Syntaxes.{TypeSyntax}
use Rattle.term_model.specs.declared.packages.PackageRec.{PackageRec}
use Rattle.term_model.specs.declared.schema.ClassRec.{ClassRec}
use Rattle.term_model.specs.declared.schema.Set.{Set}
use Rattle.term_model.specs.BoundClasses.{have_attribute}
use Rattle.term_model.specs.ObjectOperation.{class_record}
use Rattle.term_model.specs.PresentPackages.{is_among, is_chosen, packages_by}
use Rattle.term_model.specs.ControlSyntaxes.{log_attributes}
use Rattle.attribute_rules.specs.MandatoryAttributes.{classes_have, have_all_of_log, have_count_of_log}
use Rattle.attribute_rules.specs.MandatoryAttributes.{have_sizes_of_log, have_states_of_log, have_status_of_log}

none_chosen : (packages : List PackageRec) → filter (is_chosen []) packages ≡ []
none_chosen [] = refl
none_chosen (one ∷ others) = by_id one.id (none_chosen others)
  where
    by_id : (id : Option (List ℕ)) → filter (is_chosen []) others ≡ []
        → (if option_map_or (is_among []) id false then one ∷ filter (is_chosen []) others
        else filter (is_chosen []) others)
        ≡ []
    by_id None e = e
    by_id (Some id) e = e

-- where nothing is chosen, a class gives its mandatory packages
pub mandatory_alone : (records : List ClassRec) (class : List ℕ) (found : ClassRec)
    → class_record records class ≡ Some found → packages_by records [] class ≡ found.mandatory
mandatory_alone records class found h =
    rw h (ap (λ chosen. found.mandatory ++ chosen) (none_chosen found.conditional) ∙ append-nil found.mandatory)

-- that some class gives it is that all their packages together have it
each_has : (schema : Set) (label : List ℕ) (syntax : TypeSyntax) (classes : List (List ℕ))
    → classes_have schema classes label syntax
    ≡ have_attribute schema.attributes (flat_map (packages_by schema.classes []) classes) (label, syntax)
unfolding classes_have
each_has schema label syntax [] = refl
each_has schema label syntax (class ∷ classes) =
    ap
    (λ b. have_attribute schema.attributes (packages_by schema.classes [] class) (label, syntax) || b)
    (each_has schema label syntax classes)
    ∙ sym
    (list_any-append _ (packages_by schema.classes [] class) (flat_map (packages_by schema.classes []) classes))

of_log : (schema : Set) (classes : List (List ℕ))
    → have_all_of_log schema classes
    ≡ list_all (λ (wanted : List ℕ × TypeSyntax). classes_have schema classes wanted.0 wanted.1) log_attributes
unfolding have_all_of_log have_states_of_log have_status_of_log have_sizes_of_log have_count_of_log
of_log schema classes = refl

-- the attributes of a log, one behind the other
pub all_of_log : (schema : Set) (classes : List (List ℕ))
    → have_all_of_log schema classes
    ≡ list_all (have_attribute schema.attributes (flat_map (packages_by schema.classes []) classes)) log_attributes
all_of_log schema classes =
    of_log schema classes
    ∙ (λ i. list_all (λ (wanted : List ℕ × TypeSyntax). each_has schema wanted.0 wanted.1 classes i) log_attributes)
