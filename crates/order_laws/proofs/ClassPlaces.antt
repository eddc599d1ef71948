-- ClassPlaces: at which place a class stands among linked classes, by its identifier, which no other one has.
use Rattle.std.proofs.Common.{◌≡◌, ℕ, zero, suc, List, [], ◌∷◌, Bool, true, false, Option, None, Some, cond, ap}
use Rattle.std.proofs.lemmas.Bool.{both_ways, cond_both, false≢true}
use Rattle.std.proofs.lemmas.Option.{same_Some}
use Rattle.std.proofs.lemmas.Slice.Eq.{bytes_eq-Decides}
use Rattle.term_model.specs.Comparing.{is_same_oid}
use Rattle.linked_parts.specs.declared.linked.Linked.{Linked}
use Rattle.linked_parts.specs.declared.linked.LinkedClass.{LinkedClass}
use Rattle.linked_types.specs.PartIdentifiers.{IsClassId, IsIdentified}
use Rattle.schema_records.specs.ApartParts.{HaveOwnIdentifiers}

abbrev has_identifier : Option (List ℕ) → List ℕ → Bool
has_identifier None id = false
has_identifier (Some own) id = is_same_oid own id

-- the place of the first class with an identifier
abbrev pub class_place : List LinkedClass → List ℕ → ℕ
class_place [] id = 0
class_place (x ∷ classes) id = cond (has_identifier x.head.identifier id) 0 (suc (class_place classes id))

passes : (own : Option (List ℕ)) (id : List ℕ) → own ≡ Some id → has_identifier own id ≡ true
passes None id is = absurd (cc)
passes (Some own) id is = (bytes_eq-Decides own id).1 (same_Some own id is)

is_passed : (own : Option (List ℕ)) (id : List ℕ) → has_identifier own id ≡ true → own ≡ Some id
is_passed None id is = absurd (false≢true is)
is_passed (Some own) id is = ap Some ((bytes_eq-Decides own id).0 is)

stands_there : (classes : List LinkedClass) (k : ℕ) (id : List ℕ) →
    IsIdentified (λ (x : LinkedClass). x.head) classes k id →
    IsIdentified (λ (x : LinkedClass). x.head) classes (class_place classes id) id
stands_there [] k id is = absurd (cc)
stands_there (x ∷ classes) zero id is =
    cond_both (has_identifier x.head.identifier id) 0 (suc (class_place classes id))
    (λ n. IsIdentified (λ (y : LinkedClass). y.head) (x ∷ classes) n id)
    (λ e. is) (λ e. absurd (both_ways (has_identifier x.head.identifier id) e (passes x.head.identifier id is)))
stands_there (x ∷ classes) (suc k) id is =
    cond_both (has_identifier x.head.identifier id) 0 (suc (class_place classes id))
    (λ n. IsIdentified (λ (y : LinkedClass). y.head) (x ∷ classes) n id)
    (λ e. is_passed x.head.identifier id e) (λ e. stands_there classes k id is)

pub is_place : (linked : Linked) → HaveOwnIdentifiers linked → (k : ℕ) (id : List ℕ) → IsClassId linked k id →
    class_place linked.classes.items id ≡ k
is_place linked own k id is =
    own.classes (class_place linked.classes.items id) k id (stands_there linked.classes.items k id is) is
