-- The classes that are listed are the class and those from which it derives.
use Rattle.std.proofs.Common.{ℕ, zero, suc, List, [], ◌∷◌, length, subst, inl, inr}
use Rattle.std.specs.Prelude.{Contains, flat_map}
use Rattle.term_model.specs.declared.schema.Set.{Set}
use Rattle.term_model.specs.Inheritance.{Derives, IsAbove}
use Rattle.term_model.specs.Inheritance.IsAbove.{Itself, Further}
use Rattle.term_model.specs.PresentPackages.{superclasses, with_superclasses}
use Rattle.package_laws.specs.PackageLaws.{AboveIsListed, ListedIsAbove}
use Rattle.package_laws.proofs.Closing.{closed}
use Rattle.package_laws.proofs.Members.{first_or_later, flat_map_from, here, nowhere}
use Rattle.package_laws.proofs.Records.{stated_from, stated_gets}
use Rattle.package_laws.proofs.Rounds.{next, only, within}

abbrev AreAbove : Set → List ℕ → List (List ℕ) → Type 0
AreAbove schema class found = (above : List ℕ) → Contains found above → IsAbove schema class above

derives : (schema : Set) (class further : List ℕ) → Contains (superclasses schema.classes class) further
    → Derives schema class further
derives schema class further from =
    let h = stated_from (λ r. r.superclasses) schema class further from in
    record { of_class = h.0; has = h.1; from = h.2 }

next_above : (schema : Set) (class : List ℕ) (found : List (List ℕ)) → AreAbove schema class found
    → AreAbove schema class (next schema.classes found)
next_above schema class found all further at =
    elim (only found (flat_map (superclasses schema.classes) found) further at) [
      | inl before ↦ all further before
      | inr new ↦ (let h = flat_map_from (superclasses schema.classes) found further new in
          Further (all h.0 h.1) (derives schema h.0 further h.2))
    ]

all_above : (schema : Set) (class : List ℕ) (times : ℕ) (found : List (List ℕ)) → AreAbove schema class found
    → AreAbove schema class (with_superclasses schema.classes times found)
all_above schema class zero found all = all
all_above schema class (suc times) found all =
    all_above schema class times (next schema.classes found) (next_above schema class found all)

itself : (schema : Set) (class : List ℕ) → AreAbove schema class (class ∷ [])
itself schema class above at =
    elim (first_or_later class above [] at) [
      | inl same ↦ subst (IsAbove schema class) same Itself
      | inr none ↦ absurd (nowhere above none)
    ]

pub listed_is_above : ListedIsAbove
listed_is_above schema class above at =
    all_above schema class (length schema.classes) (class ∷ []) (itself schema class) above at

pub above_is_listed : AboveIsListed
above_is_listed schema class above once Itself =
    within schema.classes (length schema.classes) (class ∷ []) class (here class [])
above_is_listed schema class further once (Further {above = above} is from) =
    closed schema class above further (above_is_listed schema class above once is)
    (stated_gets (λ r. r.superclasses) schema above from.of_class further once from.has from.from)
