-- Examples of classes that are listed, computed, and of a schema in which each class has one record; X.722,
-- sections 5.2 and 8.3. Where a class has two records, a class from which it derives may not be listed.
use Rattle.std.proofs.Common.{◌≡◌, ◌⊎◌, ℕ, List, [], ◌∷◌, refl, sym, arith, ap, ◌∙◌, inl, inr}
use Rattle.std.proofs.lemmas.Bool.{false≢true}
use Rattle.std.specs.Prelude.{Contains, codes}
use Rattle.term_model.specs.declared.schema.ClassRec.{ClassRec}
use Rattle.term_model.specs.declared.schema.Set.{Set}
use Rattle.term_model.specs.Inheritance.{IsAbove}
use Rattle.term_model.specs.Inheritance.IsAbove.{Further, Itself}
use Rattle.term_model.specs.PresentPackages.{classes_above, packages_of}
use Rattle.term_model.specs.Creation.{attributes_of}
use Rattle.term_model.proofs.ExampleNetwork.{element_class, element_oid, element_package, id_oid, load_oid, network}
use Rattle.package_laws.specs.PackageLaws.{HasRecordOnce}
use Rattle.package_laws.proofs.Above.{above_is_listed}
use Rattle.package_laws.proofs.Members.{first_or_later, is_among_Decides, nowhere, same_id}

-- a board is an element, and a port is a board
abbrev board_oid : List ℕ
board_oid = 2 ∷ 999 ∷ 3 ∷ 2 ∷ []

abbrev port_oid : List ℕ
port_oid = 2 ∷ 999 ∷ 3 ∷ 3 ∷ []

abbrev derived : List ℕ → List ℕ → ClassRec
derived class superclass = record {
  id = class;
  label = codes "derived";
  superclasses = superclass ∷ [];
  mandatory = [];
  conditional = [];
  properties = element_class.properties;
}

abbrev ports : Set
ports = record network { classes = derived port_oid board_oid ∷ derived board_oid element_oid ∷ element_class ∷ [] }

-- above a port stand the board and the element
above_port : classes_above ports.classes port_oid ≡ port_oid ∷ board_oid ∷ element_oid ∷ []
above_port = refl

-- a port has the element's package, and its attributes
packages_of_port : packages_of ports port_oid [] ≡ element_package ∷ []
packages_of_port = refl

attributes_of_port : attributes_of ports port_oid [] ≡ id_oid ∷ load_oid ∷ []
attributes_of_port = refl

-- a class without a record is listed, for which as many rounds are wanted as there are records
abbrev alone : Set
alone = record network { classes = derived board_oid element_oid ∷ [] }

above_alone : classes_above alone.classes board_oid ≡ board_oid ∷ element_oid ∷ []
above_alone = refl

-- the list ends where two classes derive from one another
abbrev rings : Set
rings = record network { classes = derived port_oid board_oid ∷ derived board_oid port_oid ∷ [] }

above_in_ring : classes_above rings.classes port_oid ≡ port_oid ∷ board_oid ∷ []
above_in_ring = refl

-- each class of the ring has one record
one_of_two : (x y r : ClassRec) → Contains (x ∷ y ∷ []) r → (x ≡ r) ⊎ (y ≡ r)
one_of_two x y r at =
    elim (first_or_later x r (y ∷ []) at) [
      | inl first ↦ inl first
      | inr later ↦ elim (first_or_later y r [] later) [ inl second ↦ inr second | inr none ↦ absurd (nowhere r none) ]
    ]

apart : port_oid ≡ board_oid → ⊥
apart e = false≢true ((same_id port_oid board_oid).1 e)

rings_once : HasRecordOnce rings
rings_once first second first_at second_at same =
    by_place (one_of_two (derived port_oid board_oid) (derived board_oid port_oid) first first_at)
    (one_of_two (derived port_oid board_oid) (derived board_oid port_oid) second second_at)
  where
    by_place : (derived port_oid board_oid ≡ first) ⊎ (derived board_oid port_oid ≡ first)
        → (derived port_oid board_oid ≡ second) ⊎ (derived board_oid port_oid ≡ second) → first ≡ second
    by_place (inl a) (inl b) = sym a ∙ b
    by_place (inl a) (inr b) =
        absurd (apart (ap (λ r. r.id) a ∙ (same ∙ sym (ap (λ r. r.id) b))))
    by_place (inr a) (inl b) =
        absurd (apart (ap (λ r. r.id) b ∙ (sym same ∙ sym (ap (λ r. r.id) a))))
    by_place (inr a) (inr b) = sym a ∙ b

-- an element with a second record derives from the board by it, which isn't listed
abbrev doubled : Set
doubled = record network { classes = element_class ∷ derived element_oid board_oid ∷ [] }

board_above : IsAbove doubled element_oid board_oid
board_above = Further Itself record {
  of_class = derived element_oid board_oid;
  has = record { known = (1, omega arith, refl); named = refl };
  from = (0, omega arith, refl);
}

board_not_listed : Contains (classes_above doubled.classes element_oid) board_oid → ⊥
board_not_listed at = false≢true ((is_among_Decides (classes_above doubled.classes element_oid) board_oid).1 at)

doubled_not_once : HasRecordOnce doubled → ⊥
doubled_not_once once = board_not_listed (above_is_listed doubled element_oid board_oid once board_above)
