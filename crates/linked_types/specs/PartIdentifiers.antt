-- PartIdentifiers: the identifiers by which records name linked parts, in place of the places by which references do
-- (X.722, section 8; docs/PROFILE.md, section 18).
use Rattle.std.specs.Prelude.{◌≡◌, ℕ, List, [], ◌∷◌, Some}
use Rattle.linked_parts.specs.declared.linked.Linked.{Linked}
use Rattle.linked_parts.specs.declared.linked.LinkedHead.{LinkedHead}
use Rattle.linked_types.specs.KnownParts.{identifier_at}

-- each of these is as the one at its place
abbrev pub AreEach : {A B : Type 0} → (A → B → Type 0) → List A → List B → Type 0
AreEach Is [] [] = Unit {0}
AreEach Is (x ∷ xs) (y ∷ ys) = Is x y × AreEach Is xs ys
AreEach Is _ _ = ⊥

abbrev pub IsIdentified : {L : Type 0} → (L → LinkedHead) → List L → ℕ → List ℕ → Type 0
IsIdentified head xs k id = identifier_at head xs k ≡ Some id

abbrev pub AreIdentified : {L : Type 0} → (L → LinkedHead) → List L → List ℕ → List (List ℕ) → Type 0
AreIdentified head xs = AreEach (IsIdentified head xs)

abbrev pub IsClassId : Linked → ℕ → List ℕ → Type 0
IsClassId linked = IsIdentified (λ x. x.head) linked.classes.items

abbrev pub IsAttributeId : Linked → ℕ → List ℕ → Type 0
IsAttributeId linked = IsIdentified (λ x. x.head) linked.attributes.items
