-- Walking: what holds in the midst of a search in depth: some elements are finished, in this order, and others are
-- being visited, each led to by the one below it.
use Rattle.std.specs.Prelude.{◌≡◌, ◌<◌, ◌≤◌, ◌+◌, ◌-◌, ◌⊎◌, ℕ, suc, List, [], ◌∷◌, Bool, true, false, length, Some}
use Rattle.std.specs.List.{slice_get, sum_by}
use Rattle.link_graphs.specs.declared.walking.Visit.{Visit}
use Rattle.link_graphs.specs.Leading.{LeadsAtOnce, Reaches, targets_of}
use Rattle.link_graphs.specs.Finishing.{StandsBack}

-- an element is being visited
pub record IsVisited (visits : List Visit) (element : ℕ) : Type 0 where
  pub place : ℕ
  pub visit : Visit
  pub stands : slice_get visits place ≡ Some visit
  pub is : visit.element ≡ element

-- an element is finished
abbrev pub IsFinished : List ℕ → ℕ → Type 0
IsFinished finished element = (k : ℕ) × (slice_get finished k ≡ Some element)

-- an element is being visited, and reaches all that was finished from a place on
pub record IsAbove (lists : List (List ℕ)) (finished : List ℕ) (visits : List Visit) (low element : ℕ) : Type 0 where
  pub visited : IsVisited visits element
  pub reaches : (k y : ℕ) → low ≤ k → slice_get finished k ≡ Some y → Reaches lists element y

-- what holds of the elements that are finished, being visited and reached
pub record IsSearch (lists : List (List ℕ)) (finished : List ℕ) (visits : List Visit) (reached : List Bool)
    : Type 0 where
  pub size : length reached ≡ length lists
  pub finished_reached : (k e : ℕ) → slice_get finished k ≡ Some e → slice_get reached e ≡ Some true
  pub visited_reached : (k : ℕ) (v : Visit) → slice_get visits k ≡ Some v → slice_get reached v.element ≡ Some true
  pub placed : (e : ℕ) → slice_get reached e ≡ Some true → IsFinished finished e ⊎ IsVisited visits e
  pub once : (j k e : ℕ) → slice_get finished j ≡ Some e → slice_get finished k ≡ Some e → j ≡ k
  pub apart : (j k : ℕ) (v : Visit) → slice_get finished j ≡ Some v.element → slice_get visits k ≡ Some v → ⊥
  pub visited_once : (j k : ℕ) (v w : Visit) → slice_get visits j ≡ Some v → slice_get visits k ≡ Some w →
      v.element ≡ w.element → j ≡ k
  pub chain : (j k : ℕ) (v w : Visit) → slice_get visits j ≡ Some v → slice_get visits k ≡ Some w → j ≤ k →
      Reaches lists v.element w.element
  pub back : (k e t : ℕ) → slice_get finished k ≡ Some e → LeadsAtOnce lists e t →
      StandsBack lists finished k t ⊎ IsAbove lists finished visits k t

-- the targets that were looked at are reached
abbrev pub HaveLooked : List (List ℕ) → List Visit → List Bool → Type 0
HaveLooked lists visits reached =
    (k : ℕ) (v : Visit) → slice_get visits k ≡ Some v → (place t : ℕ) → place < v.looked →
    slice_get (targets_of lists v.element) place ≡ Some t → t < length lists → slice_get reached t ≡ Some true

pub record IsWalk (lists : List (List ℕ)) (finished : List ℕ) (visits : List Visit) (reached : List Bool)
    : Type 0 where
  pub search : IsSearch lists finished visits reached
  pub looked : HaveLooked lists visits reached

-- what was reached stays so
abbrev pub StaysReached : List Bool → List Bool → Type 0
StaysReached before after = (e : ℕ) → slice_get before e ≡ Some true → slice_get after e ≡ Some true

-- how many steps are left at most: for what was not reached yet, and for what is being visited
abbrev pub unreached_steps : List (List ℕ) → List Bool → ℕ
unreached_steps [] reached = 0
unreached_steps (targets ∷ lists) [] = 0
unreached_steps (targets ∷ lists) (true ∷ reached) = unreached_steps lists reached
unreached_steps (targets ∷ lists) (false ∷ reached) = suc (suc (length targets)) + unreached_steps lists reached

abbrev pub visit_steps : List (List ℕ) → Visit → ℕ
visit_steps lists visit = suc (length (targets_of lists visit.element) - visit.looked)

abbrev pub steps_left : List (List ℕ) → List Visit → List Bool → ℕ
steps_left lists visits reached = sum_by (visit_steps lists) visits + unreached_steps lists reached
