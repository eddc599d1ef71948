-- What a class inherits is what it has itself and what its direct superclasses inherit: X.722, section 5.2.
use Rattle.std.proofs.Common.{◌≡◌, ◌⊎◌, ℕ, zero, suc, List, [], ◌∷◌, ◌++◌, length, refl, sym, subst, inl, inr}
use Rattle.std.proofs.lemmas.List.Elements.{Contains-append_cases, Contains-append_left, Contains-append_right}
use Rattle.std.specs.Prelude.{Contains, flat_map}
use Rattle.term_model.specs.declared.schema.ClassRec.{ClassRec}
use Rattle.term_model.specs.declared.schema.Set.{Set}
use Rattle.term_model.specs.PresentPackages.{classes_above, superclasses, with_superclasses}
use Rattle.package_laws.proofs.Closing.{closed}
use Rattle.package_laws.proofs.Members.{first_or_later, flat_map_from, flat_map_gets, here, nowhere}
use Rattle.package_laws.proofs.Rounds.{next, only, within}
use Rattle.set_report.specs.ClassLists.{inherited, listed_by}
use Rattle.set_report.specs.Orders.{in_order}
use Rattle.set_report.proofs.OrderLaws.{order_from, order_gets, same_order}

-- what holds of a class holds of its direct superclasses
abbrev Passes : Set → (List ℕ → Type 0) → Type 0
Passes schema P =
    (class further : List ℕ) → P class → Contains (superclasses schema.classes class) further → P further

all_pass : (schema : Set) (P : List ℕ → Type 0) → Passes schema P → (times : ℕ) (found : List (List ℕ))
    → ((class : List ℕ) → Contains found class → P class) → (class : List ℕ)
    → Contains (with_superclasses schema.classes times found) class → P class
all_pass schema P passes zero found all = all
all_pass schema P passes (suc times) found all =
    all_pass schema P passes times (next schema.classes found) (λ class at.
    elim (only found (flat_map (superclasses schema.classes) found) class at) [
      | inl before ↦ all class before
      | inr new ↦ (let h = flat_map_from (superclasses schema.classes) found class new in
          passes h.0 class (all h.0 h.1) h.2)
    ])

-- what holds of a class and is passed on holds of all classes above it
above_only : (schema : Set) (class : List ℕ) (P : List ℕ → Type 0) → P class → Passes schema P → (above : List ℕ)
    → Contains (classes_above schema.classes class) above → P above
above_only schema class P first passes =
    all_pass schema P passes (length schema.classes) (class ∷ []) (λ above at.
    elim (first_or_later class above [] at) [
      | inl same ↦ subst P same first
      | inr none ↦ absurd (nowhere above none)
    ])

itself : (schema : Set) (class : List ℕ) → Contains (classes_above schema.classes class) class
itself schema class = within schema.classes (length schema.classes) (class ∷ []) class (here class [])

over_super : (schema : Set) (class super above : List ℕ) → Contains (superclasses schema.classes class) super
    → Contains (classes_above schema.classes super) above → Contains (classes_above schema.classes class) above
over_super schema class super above from at =
    above_only schema super (λ x. Contains (classes_above schema.classes class) x)
    (closed schema class class super (itself schema class) from) (λ x further p to. closed schema class x further p to)
    above at

-- a class above is the class itself, or stands above one of its direct superclasses
abbrev IsOver : Set → List ℕ → List ℕ → Type 0
IsOver schema class above =
    (class ≡ above)
    ⊎ ((super : List ℕ) × Contains (superclasses schema.classes class) super
    × Contains (classes_above schema.classes super) above)

above_is_over : (schema : Set) (class above : List ℕ) → Contains (classes_above schema.classes class) above
    → IsOver schema class above
above_is_over schema class above at = above_only schema class (IsOver schema class) (inl refl) passes above at
  where
    passes : Passes schema (IsOver schema class)
    passes x further (inl same) to =
        inr (
          further,
          subst (λ y. Contains (superclasses schema.classes y) further) (sym same) to,
          itself schema further,
        )
    passes x further (inr h) to = inr (h.0, h.1, closed schema h.0 x further h.2 to)

-- what a class has itself, and what its direct superclasses inherit
abbrev pub collected : Set → (ClassRec → List (List ℕ)) → List ℕ → List (List ℕ)
collected schema own class =
    listed_by schema.classes own class
    ++ flat_map (inherited schema.classes own) (superclasses schema.classes class)

pub inherits : (schema : Set) (own : ClassRec → List (List ℕ)) (class : List ℕ)
    → in_order (collected schema own class) ≡ inherited schema.classes own class
inherits schema own class = sym (same_order whole (collected schema own class) to back)
  where
    listed : List ℕ → List (List ℕ)
    listed = listed_by schema.classes own

    whole : List (List ℕ)
    whole = flat_map (listed_by schema.classes own) (classes_above schema.classes class)

    to : (y : List ℕ)
        → Contains (flat_map (listed_by schema.classes own) (classes_above schema.classes class)) y
        → Contains (collected schema own class) y
    to y at =
        let h = flat_map_from (listed_by schema.classes own) (classes_above schema.classes class) y at in
        elim (above_is_over schema class h.0 h.1) [
          | inl same ↦
              Contains-append_left (listed_by schema.classes own class)
              (flat_map (inherited schema.classes own) (superclasses schema.classes class)) y
              (subst (λ c. Contains (listed_by schema.classes own c) y) (sym same) h.2)
          | inr over ↦
              Contains-append_right (listed_by schema.classes own class)
              (flat_map (inherited schema.classes own) (superclasses schema.classes class)) y
              (flat_map_gets (inherited schema.classes own) (superclasses schema.classes class) over.0 y over.1
              (order_gets (flat_map (listed_by schema.classes own) (classes_above schema.classes over.0)) y
              (flat_map_gets (listed_by schema.classes own) (classes_above schema.classes over.0) h.0 y over.2 h.2)))
        ]

    back : (y : List ℕ) → Contains (collected schema own class) y
        → Contains (flat_map (listed_by schema.classes own) (classes_above schema.classes class)) y
    back y at =
        elim (Contains-append_cases (listed_by schema.classes own class)
        (flat_map (inherited schema.classes own) (superclasses schema.classes class)) y at) [
          | inl first ↦
              flat_map_gets (listed_by schema.classes own) (classes_above schema.classes class) class y
              (itself schema class) first
          | inr later ↦
              (let h = flat_map_from (inherited schema.classes own) (superclasses schema.classes class) y later in
              let g = flat_map_from (listed_by schema.classes own) (classes_above schema.classes h.0) y
              (order_from (flat_map (listed_by schema.classes own) (classes_above schema.classes h.0)) y h.2) in
              flat_map_gets (listed_by schema.classes own) (classes_above schema.classes class) g.0 y
              (over_super schema class h.0 g.0 h.1 g.1) g.2)
        ]
