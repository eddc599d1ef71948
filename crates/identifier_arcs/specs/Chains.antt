-- Chains: the numbers of the elements of a list: they begin with a number, or with those of another element. An element
-- that begins with those of itself, or of one that leads back to it, has none.
use Rattle.std.specs.Prelude.{◌≡◌, ◌++◌, ◌∷◌, [], ℕ, List, Option, None, Some, length, map}
use Rattle.std.specs.List.{slice_get}
use Rattle.std.specs.Option.{option_and_then}
use Rattle.key_numbers.specs.NumberedLists.{IsList, Row}
use Rattle.link_graphs.specs.Leading.{Leads}
use Rattle.identifier_arcs.specs.declared.chains.Begin.{Begin}
use Rattle.identifier_arcs.specs.declared.chains.Begin.TheVariants.{Number, Element, Nowhere}
use Rattle.identifier_arcs.specs.declared.chains.Chain.{Chain}

pub data HasNumbers (chains : List Chain) : Chain → List ℕ → Type 0 where
  begun : {x : Chain} {first : ℕ} → x.begin ≡ Number first → HasNumbers chains x (first ∷ x.others.items)
  behind : {x y : Chain} {place : ℕ} {numbers : List ℕ} → x.begin ≡ Element place → slice_get chains place ≡ Some y →
      HasNumbers chains y numbers → HasNumbers chains x (numbers ++ x.others.items)

-- what is told of an element: the number of the list of its numbers, or that it has none
abbrev pub TellsNumbers : Row → List Chain → Chain → Option ℕ → Type 0
TellsNumbers row chains x None = (numbers : List ℕ) → ¬ HasNumbers chains x numbers
TellsNumbers row chains x (Some n) = (numbers : List ℕ) × IsList row n numbers × HasNumbers chains x numbers

-- what is told of each element
pub record AreTold (row : Row) (chains : List Chain) (told : List (Option ℕ)) : Type 0 where
  pub size : length told ≡ length chains
  pub right : (k : ℕ) (x : Chain) (answer : Option ℕ) → slice_get chains k ≡ Some x → slice_get told k ≡ Some answer →
      TellsNumbers row chains x answer

-- to which elements each leads
abbrev pub chain_targets : Begin → List ℕ
chain_targets (Number first) = []
chain_targets (Element place) = place ∷ []
chain_targets Nowhere = []

abbrev pub chain_lists : List Chain → List (List ℕ)
chain_lists chains = map (λ x. chain_targets x.begin) chains

abbrev pub IsAcyclic : List Chain → ℕ → Type 0
IsAcyclic chains element = ¬ Leads (chain_lists chains) element element

-- what is told of a beginning, by what was told of elements
abbrev pub TellsBegin : Row → Begin → List (Option ℕ) → Option ℕ → Type 0
TellsBegin row (Number first) told answer = (n : ℕ) × (answer ≡ Some n) × IsList row n (first ∷ [])
TellsBegin row (Element place) told answer = answer ≡ option_and_then (λ x. x) (slice_get told place)
TellsBegin row Nowhere told answer = answer ≡ None

-- the element with which another begins is told
pub record IsBegun (row : Row) (chains : List Chain) (told : List (Option ℕ)) (begin : Begin) : Type 0 where
  pub size : length told ≡ length chains
  pub right : (place : ℕ) (y : Chain) (answer : Option ℕ) → begin ≡ Element place → slice_get chains place ≡ Some y →
      slice_get told place ≡ Some answer → TellsNumbers row chains y answer
