-- ChainEnds: where chains end, in which each element leads to one other at most.
use Rattle.std.specs.Prelude.{◌≡◌, ℕ, List, [], ◌∷◌, length, Option, None, Some}
use Rattle.std.specs.List.{slice_get}
use Rattle.std.specs.Option.{option_and_then}
use Rattle.link_graphs.specs.declared.chains.Link.{Link}
use Rattle.link_graphs.specs.declared.chains.Link.TheVariants.{End, Next, Stop}

-- the end to which an element leads. An element that leads nowhere, past the end of the list, or round in a circle has
-- none.
pub data EndsAt (links : List Link) : ℕ → ℕ → Type 0 where
  itself : {e : ℕ} → slice_get links e ≡ Some End → EndsAt links e e
  onward : {e next end : ℕ} → slice_get links e ≡ Some (Next next) → EndsAt links next end → EndsAt links e end

-- the end of each element, and none of exactly those that have none
pub record AreEnds (links : List Link) (ends : List (Option ℕ)) : Type 0 where
  pub size : length ends ≡ length links
  pub leads : (e end : ℕ) → slice_get ends e ≡ Some (Some end) → EndsAt links e end
  pub told : (e end : ℕ) → EndsAt links e end → slice_get ends e ≡ Some (Some end)

-- the targets of an element
abbrev pub link_targets : Link → List ℕ
link_targets End = []
link_targets (Next next) = next ∷ []
link_targets Stop = []

-- the end of an element, by the ends that are known
abbrev pub end_now : Link → ℕ → List (Option ℕ) → Option ℕ
end_now End element ends = Some element
end_now (Next next) element ends = option_and_then (λ end. end) (slice_get ends next)
end_now Stop element ends = None
