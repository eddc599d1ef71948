-- RoleTargets: the numbers of the templates that a template names in a role, and that they tell where it leads (X.722,
-- section 8; docs/PROFILE.md, section 12).
use Rattle.std.specs.Prelude.{◌≡◌, ◌≢◌, ◌↔◌, ℕ, List, [], ◌∷◌, Option, None, Some, slice_get}
use Rattle.gdmo_names.specs.FoundViews.{found_term, found_views}
use Rattle.gdmo_names.specs.LabelMeaning.{Leads, LeadsNowhere, Means}
use Rattle.gdmo_names.specs.Mentions.{Role, Mention, template_mentions}
use Rattle.gdmo_names.specs.PartTerms.{Placed, PartTerms}
use Rattle.gdmo_names.specs.declared.found.Found.{Found}

-- the number is that of the template that a mention in a document means; none where it means none of the kind that is
-- wanted
abbrev pub MeansNumber : PartTerms → List Found → ℕ → Mention → Option ℕ → Type 0
MeansNumber parts xs document x None = (to : Placed) → ¬ Means parts document x.role x.reference to
MeansNumber parts xs document x (Some n) =
    (to : Placed) × (slice_get (found_views xs) n ≡ Some to) × Means parts document x.role x.reference to

-- the numbers of the mentions in a role, in their order
pub data AreInRole (Is : Mention → Option ℕ → Type 0) (role : Role) : List Mention → List (Option ℕ) → Type 0 where
  no_more : AreInRole Is role [] []
  one : {x : Mention} {xs : List Mention} {n : Option ℕ} {numbers : List (Option ℕ)} → x.role ≡ role → Is x n →
      AreInRole Is role xs numbers → AreInRole Is role (x ∷ xs) (n ∷ numbers)
  other : {x : Mention} {xs : List Mention} {numbers : List (Option ℕ)} → x.role ≢ role →
      AreInRole Is role xs numbers → AreInRole Is role (x ∷ xs) numbers

abbrev pub AreRoleTargets : PartTerms → List Found → Found → Role → List (Option ℕ) → Type 0
AreRoleTargets parts xs x role numbers =
    AreInRole (MeansNumber parts xs x.document) role (template_mentions (found_term x)) numbers

-- the number of the first mention in a role; none where there is no such mention
pub data IsFirst (Is : Mention → Option ℕ → Type 0) (role : Role) : List Mention → Option ℕ → Type 0 where
  nowhere : IsFirst Is role [] None
  here : {x : Mention} {xs : List Mention} {n : Option ℕ} → x.role ≡ role → Is x n → IsFirst Is role (x ∷ xs) n
  later : {x : Mention} {xs : List Mention} {n : Option ℕ} → x.role ≢ role → IsFirst Is role xs n →
      IsFirst Is role (x ∷ xs) n

abbrev pub IsFirstTarget : PartTerms → List Found → Found → Role → Option ℕ → Type 0
IsFirstTarget parts xs x role n =
    IsFirst (MeansNumber parts xs x.document) role (template_mentions (found_term x)) n

-- a listed number is that of the template
pub record Lists (xs : List Found) (numbers : List (Option ℕ)) (to : Placed) : Type 0 where
  pub place : ℕ
  pub number : ℕ
  pub listed : slice_get numbers place ≡ Some (Some number)
  pub is : slice_get (found_views xs) number ≡ Some to

-- at some place stands none
abbrev pub ListsNone : List (Option ℕ) → Type 0
ListsNone numbers = (place : ℕ) × (slice_get numbers place ≡ Some None)

-- a template leads to those that are listed, and nowhere where one is none
pub record TellsLeads (parts : PartTerms) (xs : List Found) (x : Placed) (role : Role) (numbers : List (Option ℕ))
    : Type 0 where
  pub leads : (to : Placed) → Leads parts x role to ↔ Lists xs numbers to
  pub nowhere : LeadsNowhere parts x role ↔ ListsNone numbers
