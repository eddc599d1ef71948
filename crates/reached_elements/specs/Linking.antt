-- Linking: which elements lead to which once further ones are let lead to others.
use Rattle.std.specs.Prelude.{◌≡◌, ◌<◌, ◌⊎◌, ℕ, List, length, Option, Some}
use Rattle.std.specs.List.{slice_get}
use Rattle.link_graphs.specs.Marking.{IsTarget}

-- a number stands in a list, and before a place
abbrev pub IsThere : List (Option ℕ) → ℕ → Type 0
IsThere xs n = (k : ℕ) × (slice_get xs k ≡ Some (Some n))

abbrev pub IsThereBefore : List (Option ℕ) → ℕ → ℕ → Type 0
IsThereBefore xs place n = (k : ℕ) × (k < place) × (slice_get xs k ≡ Some (Some n))

-- one element to one target, and to one that there may be
abbrev pub IsLink : ℕ → ℕ → ℕ → ℕ → Type 0
IsLink element target e t = (e ≡ element) × (t ≡ target)

abbrev pub LinksThat : ℕ → Option ℕ → ℕ → ℕ → Type 0
LinksThat element target e t = (e ≡ element) × (target ≡ Some t)

-- one element, and one that there may be, to each of these
abbrev pub LinksEach : ℕ → List (Option ℕ) → ℕ → ℕ → Type 0
LinksEach element targets e t = (e ≡ element) × IsThere targets t

abbrev pub LinksThose : Option ℕ → List (Option ℕ) → ℕ → ℕ → Type 0
LinksThose element targets e t = (element ≡ Some e) × IsThere targets t

-- each of these to each of those
abbrev pub LinksAll : List (Option ℕ) → List (Option ℕ) → ℕ → ℕ → Type 0
LinksAll elements targets e t = IsThere elements e × IsThere targets t

-- the elements of a list lead to what they led to, and to such targets, and to nothing else
pub record GainsLinks (Is : ℕ → ℕ → Type 0) (before after : List (List ℕ)) : Type 0 where
  pub size : length after ≡ length before
  pub kept : (e t : ℕ) → IsTarget before e t → IsTarget after e t
  pub added : (e t : ℕ) → Is e t → e < length before → IsTarget after e t
  pub only : (e t : ℕ) → IsTarget after e t → IsTarget before e t ⊎ Is e t
