-- Where availabilityStatus stands among the attributes of an object: X.721; docs/PROFILE.md, section 15.
use Rattle.std.specs.Prelude.{ℕ, zero, suc, List, [], ◌∷◌, codes, if◌then◌else◌}
use Rattle.term_model.specs.declared.object.Attribute.{Attribute}
use Rattle.term_model.specs.declared.schema.AttrRec.{AttrRec}
use Rattle.term_model.specs.ClassAttributes.{is_labelled}
use Rattle.term_model.specs.Modifications.{without_full}

-- at which places attributes with this label stand, the first one counted as n
abbrev pub status_places : List AttrRec → ℕ → List Attribute → List ℕ
status_places records n [] = []
status_places records n (attribute ∷ others) =
    if is_labelled records (codes "availabilityStatus") attribute.id then n ∷ status_places records (suc n) others
    else status_places records (suc n) others

-- attributes, of which the one at a place is without logFull
abbrev pub full_taken_at : List AttrRec → ℕ → List Attribute → List Attribute
full_taken_at records place [] = []
full_taken_at records zero (attribute ∷ others) = without_full records attribute ∷ others
full_taken_at records (suc place) (attribute ∷ others) = attribute ∷ full_taken_at records place others

-- and those at these places
abbrev pub full_taken : List AttrRec → List ℕ → List Attribute → List Attribute
full_taken records [] attributes = attributes
full_taken records (place ∷ places) attributes =
    full_taken records places (full_taken_at records place attributes)
