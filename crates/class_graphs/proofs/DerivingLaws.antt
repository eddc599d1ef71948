-- DerivingLaws: templates with two numbers are two; what a link tells of two templates, and how classes derive on.
use Rattle.std.proofs.Common.{◌≡◌, ◌<◌, ◌⊎◌, ℕ, suc, zero, List, Some, ap, arith, get_or, inl, inr, refl, subst, sym}
use Rattle.std.specs.Prelude.{AllPairs}
use Rattle.std.specs.List.{slice_get}
use Rattle.std.proofs.lemmas.Option.{get_or_from_slice_get, slice_get_within}
use Rattle.gdmo_names.specs.ClassMembers.{Derives, IsOrDerives}
use Rattle.gdmo_names.specs.ClassMembers.Derives.{directly, through}
use Rattle.gdmo_names.specs.LabelMeaning.{Leads, LeadsNowhere}
use Rattle.gdmo_names.specs.Mentions.{Role}
use Rattle.gdmo_names.specs.Mentions.Role.{Superclass}
use Rattle.gdmo_names.specs.PartTerms.{Placed, PartTerms}
use Rattle.gdmo_names.specs.TargetTables.{AreTwo}
use Rattle.class_graphs.specs.ClassLinks.{LeadsBy, LostBy}
use Rattle.class_graphs.specs.NamedLinks.{ByAny}

-- ---- templates with two numbers are two

three_deeper : (i j : ℕ) → (i < j) ⊎ ((j < i) ⊎ (i ≡ j)) → (suc i < suc j) ⊎ ((suc j < suc i) ⊎ (suc i ≡ suc j))
three_deeper i j (inl h) = inl (omega (arith, h))
three_deeper i j (inr (inl h)) = inr (inl (omega (arith, h)))
three_deeper i j (inr (inr h)) = inr (inr (ap suc h))

three_cases : (i j : ℕ) → (i < j) ⊎ ((j < i) ⊎ (i ≡ j))
three_cases zero zero = inr (inr refl)
three_cases zero (suc j) = inl (omega arith)
three_cases (suc i) zero = inr (inl (omega arith))
three_cases (suc i) (suc j) = three_deeper i j (three_cases i j)

apart_at : (views : List Placed) (to : Placed) → AllPairs AreTwo views → (m n : ℕ) → m < n →
    slice_get views m ≡ Some to → slice_get views n ≡ Some to → ⊥
apart_at views to apart m n less one other =
    subst (λ y. AreTwo to y) (get_or_from_slice_get views n to to other)
    (subst (λ x. AreTwo x (get_or views n to)) (get_or_from_slice_get views m to to one)
    (apart m n to less (slice_get_within views n to other))) refl refl

pub same_number : (views : List Placed) → AllPairs AreTwo views → (i j : ℕ) (to : Placed) →
    slice_get views i ≡ Some to → slice_get views j ≡ Some to → i ≡ j
same_number views apart i j to one other = by (three_cases i j)
  where
    by : (i < j) ⊎ ((j < i) ⊎ (i ≡ j)) → i ≡ j
    by (inl less) = absurd (apart_at views to apart i j less one other)
    by (inr (inl less)) = absurd (apart_at views to apart j i less other one)
    by (inr (inr same)) = same

-- ---- what a link tells

pub leads_of : {parts : PartTerms} {views : List Placed} {role : Role} {x y : Placed} →
    ByAny views (LeadsBy parts role) x y → Leads parts x role y
leads_of {parts} {views} {role} {x} {y} h = subst (λ z. Leads parts z role y) h.is.0 h.is.1

pub leads_by : {parts : PartTerms} {views : List Placed} {role : Role} {x y : Placed} (n : ℕ) →
    slice_get views n ≡ Some x → Leads parts x role y → ByAny views (LeadsBy parts role) x y
leads_by {x = x} n at leads = record { place = n; by = x; at = at; is = (refl, leads) }

pub lost_of : {parts : PartTerms} {views : List Placed} {role : Role} {x y : Placed} →
    ByAny views (LostBy parts role) x y → LeadsNowhere parts x role
lost_of {parts} {views} {role} h = subst (λ z. LeadsNowhere parts z role) h.is.0 h.is.2

pub lost_by : {parts : PartTerms} {views : List Placed} {role : Role} {x : Placed} (n : ℕ) →
    slice_get views n ≡ Some x → LeadsNowhere parts x role → ByAny views (LostBy parts role) x x
lost_by {x = x} n at lost = record { place = n; by = x; at = at; is = (refl, refl, lost) }

pub derive : {parts : PartTerms} {x y z : Placed} → IsOrDerives parts x y → Leads parts y Superclass z →
    Derives parts x z
derive {parts} {x} {y} {z} (inl same) leads = directly (subst (λ w. Leads parts w Superclass z) (sym same) leads)
derive (inr d) leads = through d leads

derive_from : {parts : PartTerms} {x y z : Placed} → Leads parts x Superclass y → Derives parts y z → Derives parts x z
derive_from one (directly leads) = through (directly one) leads
derive_from one (through d leads) = through (derive_from one d) leads

pub derive_first : {parts : PartTerms} {x y z : Placed} → Leads parts x Superclass y → IsOrDerives parts y z →
    Derives parts x z
derive_first {parts} {x} one (inl same) = directly (subst (λ w. Leads parts x Superclass w) same one)
derive_first one (inr d) = derive_from one d
