-- PlaceLaws: what holds of each record that is made of a part, and the record of the part that an identifier names.
use Rattle.std.specs.Prelude.{◌≡◌, ◌∷◌, [], ℕ, zero, suc, List, Some, All, Contains, get_or, map, slice_get}
use Rattle.std.proofs.Common.{◌∙◌, ap, arith, sym}
use Rattle.std.proofs.Math.Path.{subst}
use Rattle.std.proofs.lemmas.Option.{same_Some, slice_get-get_or}
use Rattle.linked_parts.specs.declared.linked.LinkedHead.{LinkedHead}
use Rattle.linked_types.specs.PartIdentifiers.{AreEach, IsIdentified}
use Rattle.schema_records.proofs.ClassLaws.{at_contains, contains_at, each_at, each_from, named_part}

pub later_of : {A : Type 0} (x y : A) (xs : List A) → Contains xs y → Contains (x ∷ xs) y
later_of x y xs has = (suc has.0, (let w = has.1 in omega (arith, w)), has.2)

-- what holds of each that is made of a part holds of all
pub all_made : {A B : Type 0} (Is : A → B → Type 0) (P : B → Type 0) (xs : List A) (ys : List B) →
    ((x : A) (y : B) → Contains xs x → Is x y → P y) → AreEach Is xs ys → All P ys
all_made Is P xs ys step each n d within =
    let found = each_from Is xs ys n (get_or ys n d) each (slice_get-get_or ys n d within) in
    step found.0 (get_or ys n d) (at_contains xs n found.0 found.1) found.2

map_at : {A B : Type 0} (f : A → B) (xs : List A) (k : ℕ) (x : A) → slice_get xs k ≡ Some x →
    slice_get (map f xs) k ≡ Some (f x)
map_at f [] k x at = absurd (cc)
map_at f (y ∷ xs) zero x at = ap (λ z. Some (f z)) (same_Some y x at)
map_at f (y ∷ xs) (suc k) x at = map_at f xs k x at

-- the identifier of a record is among those of all records
pub among_all : {A : Type 0} (id_of : A → List ℕ) (xs : List A) (x : A) (id : List ℕ) → Contains xs x →
    id_of x ≡ id → Contains (map id_of xs) id
among_all id_of xs x id has called =
    let at = contains_at xs x has in
    subst (Contains (map id_of xs)) called
    (at_contains (map id_of xs) at.0 (id_of x) (map_at id_of xs at.0 x at.1))

-- the record of the part at a place, and its identifier
pub record IsThere {L X : Type 0} (Is : L → X → Type 0) (id_of : X → List ℕ) (parts : List L) (xs : List X) (k : ℕ)
    (id : List ℕ) : Type 0 where
  pub part : L
  pub stands : slice_get parts k ≡ Some part
  pub x : X
  pub known : Contains xs x
  pub is : Is part x
  pub called : id_of x ≡ id

module _ {L X : Type 0} (head : L → LinkedHead) (id_of : X → List ℕ) (Is : L → X → Type 0)
    (registered : (part : L) (x : X) → Is part x → (head part).identifier ≡ Some (id_of x)) (parts : List L)
    (xs : List X) (each : AreEach Is parts xs) where
  pub record_there : (k : ℕ) (id : List ℕ) → IsIdentified head parts k id → IsThere Is id_of parts xs k id
  record_there k id is =
      let named = named_part head parts k id is in
      let found = each_at Is parts xs k named.part each named.stands in
      record {
        part = named.part;
        stands = named.stands;
        x = found.0;
        known = at_contains xs k found.0 found.1;
        is = found.2;
        called = same_Some (id_of found.0) id (sym (registered named.part found.0 found.2) ∙ named.called);
      }

  pub id_there : (k : ℕ) (id : List ℕ) → IsIdentified head parts k id → Contains (map id_of xs) id
  id_there k id is =
      let there = record_there k id is in
      among_all id_of xs there.x id there.known there.called
