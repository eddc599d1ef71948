-- Which packages the creation of an object names, and which attributes the object has: X.711, section 7.4, m-Create;
-- X.720, section 5; docs/PROFILE.md, section 15.
use Rattle.std.specs.Prelude.{ℕ, List, [], ◌∷◌, ◌++◌, Bool, false, Option, None, Some, flat_map, map}
use Rattle.std.specs.Prelude.{if◌then◌else◌}
use Rattle.std.specs.Option.{option_map_or}
use Rattle.std.specs.Cmp.Lexicographic.{slice_cmp}
use Rattle.std.specs.Ordering.{nat_cmp}
use Rattle.std.specs.declared.cmp.Ordering.{Ordering}
use Rattle.std.specs.declared.cmp.Ordering.TheVariants.{Less, Equal, Greater}
use Rattle.term_values.specs.Typed.{TypedValue, TypedValues}
use Rattle.term_values.specs.Typed.TypedValue.{Identifier, Many}
use Rattle.term_values.specs.Typed.TypedValues.{Nothing, Then}
use Rattle.term_model.specs.declared.creation.Outline.{Outline}
use Rattle.term_model.specs.declared.filter_item.Given.{Given}
use Rattle.term_model.specs.declared.packages.PackageRec.{PackageRec}
use Rattle.term_model.specs.declared.packages.Property.{Property}
use Rattle.term_model.specs.declared.request.IdRef.{IdRef}
use Rattle.term_model.specs.declared.request.IdRef.TheVariants as ids
use Rattle.term_model.specs.declared.schema.Set.{Set}
use Rattle.term_model.specs.AgentWritten.{is_packages}
use Rattle.term_model.specs.BoundClasses.{is_bound_log}
use Rattle.term_model.specs.PresentPackages.{packages_of}

-- the identifier under which something is registered; a number of the manager's own is none
abbrev pub registered : IdRef → Option (List ℕ)
registered (ids.Global arcs) = Some arcs
registered (ids.Local number) = None

-- the identifier that a value is
abbrev pub identifiers_of : TypedValue → List (List ℕ)
identifiers_of (Identifier arcs) = arcs ∷ []
identifiers_of _ = []

-- the identifiers in a set of them
abbrev pub identifiers_among : TypedValues → List (List ℕ)
identifiers_among Nothing = []
identifiers_among (Then x rest) = identifiers_of x ++ identifiers_among rest

abbrev pub identifiers_in : TypedValue → List (List ℕ)
identifiers_in (Many values) = identifiers_among values
identifiers_in _ = []

-- the attribute that is given, where it is registered, is the one of a class that lists the packages of its objects
abbrev pub gives_packages : Set → List ℕ → Given → Bool
gives_packages schema class given = option_map_or (is_packages schema class) (registered given.id) false

-- The packages that a creation names: those that the first such value in its list has. A value that is none of the
-- attribute's syntax is passed over.
abbrev pub packages_named : Set → List ℕ → List Given → List (List ℕ)
packages_named schema class [] = []
packages_named schema class (first ∷ others) =
    if gives_packages schema class first
    then option_map_or identifiers_in first.value (packages_named schema class others)
    else packages_named schema class others

-- the attributes of a package, as it lists them
abbrev pub package_ids : PackageRec → List (List ℕ)
package_ids of_package = map (λ (stated : Property). stated.attribute) of_package.attributes

abbrev pub stated_ids : List PackageRec → List (List ℕ)
stated_ids packages = flat_map package_ids packages

-- identifiers by rising arcs, each once
abbrev pub noted_by : Ordering → List ℕ → List ℕ → List (List ℕ) → List (List ℕ) → List (List ℕ)
noted_by Less id first others behind = id ∷ first ∷ others
noted_by Equal id first others behind = first ∷ others
noted_by Greater id first others behind = first ∷ behind

abbrev pub noted : List ℕ → List (List ℕ) → List (List ℕ)
noted id [] = id ∷ []
noted id (first ∷ others) = noted_by (slice_cmp nat_cmp id first) id first others (noted id others)

-- others noted among those that were found
abbrev pub noted_all : List (List ℕ) → List (List ℕ) → List (List ℕ)
noted_all found [] = found
noted_all found (id ∷ others) = noted_all (noted id found) others

-- the attributes of an object of a class with these packages, by rising identifier, each once
abbrev pub attributes_of : Set → List ℕ → List (List ℕ) → List (List ℕ)
attributes_of schema class chosen = noted_all [] (stated_ids (packages_of schema class chosen))

-- what an object of a class has with the packages that its creation names
abbrev pub outline_with : Set → List ℕ → List (List ℕ) → Outline
outline_with schema class chosen = record {
  bound_log = is_bound_log schema class;
  chosen = chosen;
  attributes = attributes_of schema class chosen;
}

abbrev pub outline_of : Set → List ℕ → List Given → Outline
outline_of schema class given = outline_with schema class (packages_named schema class given)
