-- The packages that an object has: X.722, sections 5.2 and 8.3. They are the mandatory packages of its class and of all
-- classes from which it derives, and of their conditional packages those that its creation chose. The relation is in
-- Inheritance.
use Rattle.std.specs.Prelude.{ℕ, zero, suc, List, [], ◌∷◌, ◌++◌, Bool, false, length, filter, flat_map}
use Rattle.std.specs.Prelude.{if◌then◌else◌}
use Rattle.std.specs.List.{list_any}
use Rattle.std.specs.Option.{option_map_or}
use Rattle.term_model.specs.declared.packages.PackageRec.{PackageRec}
use Rattle.term_model.specs.declared.schema.ClassRec.{ClassRec}
use Rattle.term_model.specs.declared.schema.Set.{Set}
use Rattle.term_model.specs.Comparing.{is_same_oid}
use Rattle.term_model.specs.ObjectOperation.{class_record}

-- the identifier is among these
abbrev pub is_among : List (List ℕ) → List ℕ → Bool
is_among ids id = list_any (λ (of_list : List ℕ). is_same_oid of_list id) ids

-- identifiers, and behind them those of others that are not among them, each once
abbrev pub with_new : List (List ℕ) → List (List ℕ) → List (List ℕ)
with_new found [] = found
with_new found (id ∷ ids) = if is_among found id then with_new found ids else with_new (found ++ id ∷ []) ids

-- the classes from which a class directly derives
abbrev pub superclasses : List ClassRec → List ℕ → List (List ℕ)
superclasses records class =
    option_map_or (λ (of_class : ClassRec). of_class.superclasses) (class_record records class) []

-- classes with their direct superclasses, so many times
abbrev pub with_superclasses : List ClassRec → ℕ → List (List ℕ) → List (List ℕ)
with_superclasses records zero classes = classes
with_superclasses records (suc times) classes =
    with_superclasses records times (with_new classes (flat_map (superclasses records) classes))

-- a class, and all classes from which it derives, directly or not: no class is further above it than there are records
abbrev pub classes_above : List ClassRec → List ℕ → List (List ℕ)
classes_above records class = with_superclasses records (length records) (class ∷ [])

-- a creation that names these packages chose the package
abbrev pub is_chosen : List (List ℕ) → PackageRec → Bool
is_chosen chosen of_package = option_map_or (is_among chosen) of_package.id false

-- the packages that an object has by what a class itself states
abbrev pub packages_in : List (List ℕ) → ClassRec → List PackageRec
packages_in chosen of_class = of_class.mandatory ++ filter (is_chosen chosen) of_class.conditional

abbrev pub packages_by : List ClassRec → List (List ℕ) → List ℕ → List PackageRec
packages_by records chosen class = option_map_or (packages_in chosen) (class_record records class) []

-- the packages of an object of a class whose creation chose these; those of none are the mandatory ones
abbrev pub packages_of : Set → List ℕ → List (List ℕ) → List PackageRec
packages_of schema class chosen = flat_map (packages_by schema.classes chosen) (classes_above schema.classes class)
