-- BegunMarks: sets of first names, and that of the assignments that define a name of a set each is marked, and none
-- besides those that were (X.680, section 32; docs/PROFILE.md, section 12).
use Rattle.std.specs.Prelude.{◌≡◌, ◌⊎◌, ◌<◌, ℕ, List, [], ◌∷◌, true, false, Option, Some, get_or, length}
use Rattle.token_grammar.specs.declared.token.Token.{Token}
use Rattle.asn1_names.specs.FirstNames.{found}
use Rattle.gdmo_begun_names.specs.declared.begun_names.BegunNames.{BegunNames}

abbrev pub FirstSet : Type 1
FirstSet = Token → Type 0

-- one name, and one that may be missing
abbrev pub ThisFirst : Token → FirstSet
ThisFirst name first = name ≡ first

abbrev pub MaybeFirst : Option Token → FirstSet
MaybeFirst name first = name ≡ Some first

-- those of each element of a list
abbrev pub AnyFirst : {X : Type 0} → (X → FirstSet) → List X → FirstSet
AnyFirst Firsts [] first = ⊥
AnyFirst Firsts (x ∷ xs) first = Firsts x first ⊎ AnyFirst Firsts xs first

-- the assignment with this number is marked
abbrev pub IsMarked : BegunNames → ℕ → Type 0
IsMarked names number = get_or names.begun.items number false ≡ true

-- it is the one by which the first module that defines a name of the set does
pub record DefinesOne (Firsts : FirstSet) (names : BegunNames) (number : ℕ) : Type 0 where
  pub first : Token
  pub is_one : Firsts first
  pub is : found names.defined.now first.text ≡ Some number

-- all of these are marked, and none besides those that were
pub record Marks (Firsts : FirstSet) (before after : BegunNames) : Type 0 where
  pub table : after.defined ≡ before.defined
  pub count : length after.begun.items ≡ length before.begun.items
  pub kept : (number : ℕ) → IsMarked before number → IsMarked after number
  pub there : (number : ℕ) → IsMarked after number → IsMarked before number ⊎ DefinesOne Firsts before number
  pub all : (number : ℕ) → number < length before.begun.items → DefinesOne Firsts before number → IsMarked after number

-- some module defines a name of the set
abbrev pub DefinesSome : FirstSet → BegunNames → Type 0
DefinesSome Firsts names = (number : ℕ) × DefinesOne Firsts names number
