-- InStep: two lists go in step: each element is told by the one at its place (docs/PROFILE.md, section 12).
use Rattle.std.specs.Prelude.{◌≡◌, List, [], ◌∷◌, ◌++◌}

abbrev pub AreEach : {A B : Type 0} → (A → B → Type 0) → List A → List B → Type 0
AreEach is [] [] = Unit {0}
AreEach is (x ∷ xs) (y ∷ ys) = is x y × AreEach is xs ys
AreEach is _ _ = ⊥

-- each element of a list is told
abbrev pub AreAll : {A : Type 0} → (A → Type 0) → List A → Type 0
AreAll is [] = Unit {0}
AreAll is (x ∷ xs) = is x × AreAll is xs

-- elements that tell a list were added
pub record AddsEach {A B : Type 0} (is : A → B → Type 0) (xs : List A) (before after : List B) : Type 0 where
  pub more : List B
  pub behind : after ≡ before ++ more
  pub each : AreEach is xs more
