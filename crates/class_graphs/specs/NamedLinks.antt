-- NamedLinks: graphs of numbers of templates, in which one number leads to another where something holds of the two
-- templates (X.722, section 8).
use Rattle.std.specs.Prelude.{◌≡◌, ◌<◌, ◌⊎◌, ℕ, List, length, Option, Some}
use Rattle.std.specs.List.{slice_get}
use Rattle.link_graphs.specs.Marking.{IsTarget}
use Rattle.reached_elements.specs.Linking.{IsThere}
use Rattle.gdmo_names.specs.PartTerms.{Placed}

-- the number of one template leads to that of another
pub record AreLinked (views : List Placed) (lists : List (List ℕ)) (one other : Placed) : Type 0 where
  pub number : ℕ
  pub its_number : ℕ
  pub one_at : slice_get views number ≡ Some one
  pub other_at : slice_get views its_number ≡ Some other
  pub links : IsTarget lists number its_number

-- a number leads to another exactly where this holds of their templates
pub record AreLinks (views : List Placed) (Is : Placed → Placed → Type 0) (lists : List (List ℕ)) : Type 0 where
  pub size : length lists ≡ length views
  pub sound : (n k : ℕ) (one other : Placed) → slice_get views n ≡ Some one → slice_get views k ≡ Some other →
      IsTarget lists n k → Is one other
  pub whole : (one other : Placed) → Is one other → AreLinked views lists one other

-- the same of what is added to the links that there were
pub record AddsLinks (views : List Placed) (Is : Placed → Placed → Type 0) (before after : List (List ℕ))
    : Type 0 where
  pub size : length after ≡ length before
  pub kept : (n k : ℕ) → IsTarget before n k → IsTarget after n k
  pub only : (n k : ℕ) (one other : Placed) → slice_get views n ≡ Some one → slice_get views k ≡ Some other →
      IsTarget after n k → IsTarget before n k ⊎ Is one other
  pub whole : length before ≡ length views → (one other : Placed) → Is one other → AreLinked views after one other

-- a list has the numbers of exactly these templates
pub record AreNumbersOf (views : List Placed) (Is : Placed → Type 0) (numbers : List (Option ℕ)) : Type 0 where
  pub sound : (n : ℕ) (x : Placed) → slice_get views n ≡ Some x → IsThere numbers n → Is x
  pub whole : (x : Placed) → Is x → (n : ℕ) × (slice_get views n ≡ Some x) × IsThere numbers n

-- it holds by some element of a list, and by one before a place
pub record ByAny {B : Type 0} (bs : List B) (Is : B → Placed → Placed → Type 0) (one other : Placed) : Type 0 where
  pub place : ℕ
  pub by : B
  pub at : slice_get bs place ≡ Some by
  pub is : Is by one other

pub record ByBefore {B : Type 0} (bs : List B) (Is : B → Placed → Placed → Type 0) (end : ℕ) (one other : Placed)
    : Type 0 where
  pub place : ℕ
  pub by : B
  pub within : place < end
  pub at : slice_get bs place ≡ Some by
  pub is : Is by one other
