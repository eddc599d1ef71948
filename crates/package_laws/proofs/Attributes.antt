-- The attributes that are listed for an object are those that it has.
use Rattle.std.proofs.Common.{◌≡◌, ◌⊎◌, ℕ, List, [], ◌∷◌, refl, sym, ap, ◌∙◌, subst, inl, inr}
use Rattle.std.proofs.lemmas.Map.Text.{is_eq-slice_cmp}
use Rattle.std.specs.Cmp.Lexicographic.{slice_cmp}
use Rattle.std.specs.Ordering.{nat_cmp, is_eq}
use Rattle.std.specs.declared.cmp.Ordering.{Ordering}
use Rattle.std.specs.declared.cmp.Ordering.TheVariants.{Less, Equal, Greater}
use Rattle.std.specs.Prelude.{Contains}
use Rattle.term_model.specs.declared.packages.Property.{Property}
use Rattle.term_model.specs.Creation.{noted, noted_all, noted_by, package_ids, stated_ids}
use Rattle.term_model.specs.PresentPackages.{packages_of}
use Rattle.package_laws.specs.PackageLaws.{AttributeIsListed, ListedHasAttribute}
use Rattle.package_laws.proofs.Members.{first_or_later, flat_map_from, flat_map_gets, joined, map_from, map_gets}
use Rattle.package_laws.proofs.Members.{nowhere, same_id, there}
use Rattle.package_laws.proofs.Packages.{listed_has_package, package_is_listed}

same_order : (id first : List ℕ) → slice_cmp nat_cmp id first ≡ Equal → id ≡ first
same_order id first e = (same_id id first).0 (sym (is_eq-slice_cmp id first) ∙ ap is_eq e)

-- ---- identifiers noted among others

noted_from : (id : List ℕ) (found : List (List ℕ)) (x : List ℕ) → Contains (noted id found) x
    → (id ≡ x) ⊎ Contains found x
noted_from id [] x at = first_or_later id x [] at
noted_from id (first ∷ others) x at =
    by_order (slice_cmp nat_cmp id first) (λ h. noted_from id others x h) at
  where
    further : (id ≡ x) ⊎ Contains others x → (id ≡ x) ⊎ Contains (first ∷ others) x
    further (inl same) = inl same
    further (inr later) = inr (there first x others later)

    by_order : (o : Ordering) → (Contains (noted id others) x → (id ≡ x) ⊎ Contains others x)
        → Contains (noted_by o id first others (noted id others)) x → (id ≡ x) ⊎ Contains (first ∷ others) x
    by_order Less behind h = first_or_later id x (first ∷ others) h
    by_order Equal behind h = inr h
    by_order Greater behind h =
        elim (first_or_later first x (noted id others) h) [
          | inl same ↦ inr (joined first x others (inl same))
          | inr later ↦ further (behind later)
        ]

noted_gets : (id : List ℕ) (found : List (List ℕ)) (x : List ℕ) → (id ≡ x) ⊎ Contains found x
    → Contains (noted id found) x
noted_gets id [] x h = joined id x [] h
noted_gets id (first ∷ others) x h =
    by_order (slice_cmp nat_cmp id first) refl (λ later. noted_gets id others x later) h
  where
    by_order : (o : Ordering) → slice_cmp nat_cmp id first ≡ o
        → ((id ≡ x) ⊎ Contains others x → Contains (noted id others) x) → (id ≡ x) ⊎ Contains (first ∷ others) x
        → Contains (noted_by o id first others (noted id others)) x
    by_order Less e behind either = joined id x (first ∷ others) either
    by_order Equal e behind (inl same) = joined first x others (inl (sym (same_order id first e) ∙ same))
    by_order Equal e behind (inr later) = later
    by_order Greater e behind (inl same) = there first x (noted id others) (behind (inl same))
    by_order Greater e behind (inr later) =
        elim (first_or_later first x others later) [
          | inl is_first ↦ joined first x (noted id others) (inl is_first)
          | inr after ↦ there first x (noted id others) (behind (inr after))
        ]

all_from : (found ids : List (List ℕ)) (x : List ℕ) → Contains (noted_all found ids) x
    → Contains found x ⊎ Contains ids x
all_from found [] x at = inl at
all_from found (id ∷ ids) x at =
    elim (all_from (noted id found) ids x at) [
      | inl before ↦ elim (noted_from id found x before) [
        | inl same ↦ inr (joined id x ids (inl same))
        | inr there_before ↦ inl there_before
      ]
      | inr later ↦ inr (there id x ids later)
    ]

all_get : (found ids : List (List ℕ)) (x : List ℕ) → Contains found x ⊎ Contains ids x
    → Contains (noted_all found ids) x
all_get found [] x (inl before) = before
all_get found [] x (inr none) = absurd (nowhere x none)
all_get found (id ∷ ids) x (inl before) =
    all_get (noted id found) ids x (inl (noted_gets id found x (inr before)))
all_get found (id ∷ ids) x (inr at) =
    elim (first_or_later id x ids at) [
      | inl same ↦ all_get (noted id found) ids x (inl (noted_gets id found x (inl same)))
      | inr later ↦ all_get (noted id found) ids x (inr later)
    ]

-- ---- the attributes of an object

pub listed_has_attribute : ListedHasAttribute
listed_has_attribute schema class chosen attribute at =
    elim (all_from [] (stated_ids (packages_of schema class chosen)) attribute at) [
      | inl none ↦ absurd (nowhere attribute none)
      | inr stated ↦ (
          let by = flat_map_from package_ids (packages_of schema class chosen) attribute stated in
          let h = map_from (λ (p : Property). p.attribute) by.0.attributes attribute by.2 in
          record {
            of_package = by.0;
            has = listed_has_package schema class chosen by.0 by.1;
            property = h.0;
            stated = h.1;
            is = h.2;
          })
    ]

pub attribute_is_listed : AttributeIsListed
attribute_is_listed schema class chosen attribute once h =
    all_get [] (stated_ids (packages_of schema class chosen)) attribute
    (inr (flat_map_gets package_ids (packages_of schema class chosen) h.of_package attribute
    (package_is_listed schema class chosen h.of_package once h.has)
    (subst (Contains (package_ids h.of_package)) h.is
    (map_gets (λ (p : Property). p.attribute) h.of_package.attributes h.property h.stated))))
