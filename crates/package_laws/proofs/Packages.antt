-- The packages that are listed for an object are those that it has.
use Rattle.std.proofs.Common.{◌≡◌, ◌⊎◌, ℕ, false, List, Option, None, Some, refl, subst, inl, inr}
use Rattle.std.proofs.lemmas.Bool.{false≢true}
use Rattle.std.proofs.lemmas.List.Elements.{Contains-append_cases, Contains-append_left, Contains-append_right}
use Rattle.std.specs.Option.{option_map_or}
use Rattle.std.specs.Prelude.{Contains, Decides, filter}
use Rattle.term_model.specs.declared.packages.PackageRec.{PackageRec}
use Rattle.term_model.specs.declared.schema.ClassRec.{ClassRec}
use Rattle.term_model.specs.PresentPackages.{classes_above, is_among, is_chosen, packages_by, packages_in}
use Rattle.package_laws.specs.PackageLaws.{ListedHasPackage, PackageIsListed}
use Rattle.package_laws.proofs.Above.{above_is_listed, listed_is_above}
use Rattle.package_laws.proofs.Members.{filter_from, filter_gets, flat_map_from, flat_map_gets, is_among_Decides}
use Rattle.package_laws.proofs.Records.{stated_from, stated_gets}

-- the package is registered, and chosen
abbrev IsChosen : List (List ℕ) → Option (List ℕ) → Type 0
IsChosen chosen registered = (id : List ℕ) × (registered ≡ Some id) × Contains chosen id

chosen_Decides : (chosen : List (List ℕ)) (registered : Option (List ℕ))
    → Decides (option_map_or (is_among chosen) registered false) (IsChosen chosen registered)
chosen_Decides chosen None = (λ e. absurd (false≢true e), λ h. let e = h.1 in cc)
chosen_Decides chosen (Some id) = (
  λ e. (id, refl, (is_among_Decides chosen id).0 e),
  λ h. (is_among_Decides chosen id).1
      (let e = h.1 in let same : h.0 ≡ id = cc in subst (Contains chosen) same h.2),
)

-- what a class itself states
abbrev IsStated : List (List ℕ) → ClassRec → PackageRec → Type 0
IsStated chosen of_class has = Contains of_class.mandatory has
    ⊎ (Contains of_class.conditional has × IsChosen chosen has.id)

stated : (chosen : List (List ℕ)) (of_class : ClassRec) (has : PackageRec) → Contains (packages_in chosen of_class) has
    → IsStated chosen of_class has
stated chosen of_class has at =
    elim (Contains-append_cases of_class.mandatory (filter (is_chosen chosen) of_class.conditional) has at) [
      | inl mandatory ↦ inl mandatory
      | inr conditional ↦ (let h = filter_from (is_chosen chosen) of_class.conditional has conditional in
          inr (h.0, (chosen_Decides chosen has.id).0 h.1))
    ]

gathered : (chosen : List (List ℕ)) (of_class : ClassRec) (has : PackageRec) → IsStated chosen of_class has
    → Contains (packages_in chosen of_class) has
gathered chosen of_class has (inl mandatory) =
    Contains-append_left of_class.mandatory (filter (is_chosen chosen) of_class.conditional) has mandatory
gathered chosen of_class has (inr conditional) =
    Contains-append_right of_class.mandatory (filter (is_chosen chosen) of_class.conditional) has
    (filter_gets (is_chosen chosen) of_class.conditional has conditional.0
    ((chosen_Decides chosen has.id).1 conditional.1))

pub listed_has_package : ListedHasPackage
listed_has_package schema class chosen has at =
    let by = flat_map_from (packages_by schema.classes chosen) (classes_above schema.classes class) has at in
    let of_class = stated_from (packages_in chosen) schema by.0 has by.2 in
    record {
      above = by.0;
      is_above = listed_is_above schema class by.0 by.1;
      of_class = of_class.0;
      record_of = of_class.1;
      there = stated chosen of_class.0 has of_class.2;
    }

pub package_is_listed : PackageIsListed
package_is_listed schema class chosen has once h =
    flat_map_gets (packages_by schema.classes chosen) (classes_above schema.classes class) h.above has
    (above_is_listed schema class h.above once h.is_above)
    (stated_gets (packages_in chosen) schema h.above h.of_class has once h.record_of
    (gathered chosen h.of_class has h.there))
