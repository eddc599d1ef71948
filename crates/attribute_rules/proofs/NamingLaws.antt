-- The attribute of the last part of a name.
use Rattle.std.proofs.Common.{◌≡◌, List, [], ◌∷◌, ◌++◌, ℕ, Some, None, refl}
use Rattle.std.proofs.lemmas.List.{append-nil}
use Rattle.term_model.specs.declared.name.Rdn.{Rdn}
use Rattle.term_model.specs.Modifiable.{last_attribute}

pub last_of : (front : List Rdn) (rdn : Rdn) → last_attribute (front ++ rdn ∷ []) ≡ Some rdn.attribute
last_of [] rdn = refl
last_of (x ∷ []) rdn = refl
last_of (x ∷ y ∷ front) rdn = last_of (y ∷ front) rdn

pub last_behind : (front : List Rdn) (rdn : Rdn) (behind : List Rdn)
    → last_attribute (front ++ rdn ∷ behind) ≡ last_attribute (rdn ∷ behind)
last_behind [] rdn behind = refl
last_behind (x ∷ []) rdn behind = refl
last_behind (x ∷ y ∷ front) rdn behind = last_behind (y ∷ front) rdn behind

pub last_behind_some : (front name : List Rdn) (id : List ℕ) → last_attribute name ≡ Some id
    → last_attribute (front ++ name) ≡ Some id
last_behind_some front [] id h = absurd (cc)
last_behind_some front (rdn ∷ behind) id h = rw (last_behind front rdn behind) h

none_without : (rdn : Rdn) (behind : List Rdn) → last_attribute (rdn ∷ behind) ≡ None → ⊥
none_without rdn [] h = absurd (cc)
none_without rdn (x ∷ behind) h = none_without x behind h

pub last_behind_none : (front name : List Rdn) → last_attribute name ≡ None
    → last_attribute (front ++ name) ≡ last_attribute front
last_behind_none front [] h = rw (append-nil front) refl
last_behind_none front (rdn ∷ behind) h = absurd (none_without rdn behind h)
