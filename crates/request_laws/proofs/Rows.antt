-- Components of a SEQUENCE in a row are read where they are denoted: X.690, sections 8.9 and 8.10.
use Rattle.std.proofs.Common.{◌≡◌, ℕ, List, Bool, true, false, ◌&&◌, Option, None, Some, refl, sym, ap, ◌∙◌, ⊎_elim}
use Rattle.std.proofs.lemmas.Bool.{cases_Bool}
use Rattle.std.specs.Prelude.{is_some, option_and_then, if◌then◌else◌}
use Rattle.term_values.specs.Beginnings.{begins}
use Rattle.term_values.specs.CmipTypes.{at_most_one, one}
use Rattle.term_values.specs.Decoding.{denoted, parts_in}
use Rattle.term_values.specs.FilterTrees.{is_context}
use Rattle.term_values.specs.LeafReading.{no_trees}
use Rattle.term_values.specs.Syntaxes.{TypeParts, TypeSyntax}
use Rattle.term_values.specs.Syntaxes.TypeParts.{NoParts}
use Rattle.term_values.specs.Tree.{TreeValue, TreeValues}
use Rattle.term_values.specs.Tree.TreeValues.{Nothing, Then}
use Rattle.term_values.specs.TreeTags.{tag_of}
use Rattle.term_values.specs.Typed.TypedSlots.{Filled, Empty}
use Rattle.term_values.specs.declared.tag.Tag.{Tag}
use Rattle.term_model.specs.ArgumentRows.{at_end, at_front}
use Rattle.request_laws.proofs.Options.{is_both, is_mapped}
use Rattle.request_laws.proofs.Parts.{end_same}

-- a component that may be left out
pub optional_same : {A : Type 0} (name : List ℕ) (syntax : TypeSyntax) (rest : TypeParts) (test : Tag → Bool)
    (read : Option TreeValue → Option A) → ((tag : Tag) → begins syntax tag ≡ test tag)
    → is_some (read None) ≡ true
    → ((x : TreeValue) → test (tag_of x) ≡ true → is_some (read (Some x)) ≡ is_some (denoted false syntax x))
    → (trees : TreeValues) → is_some (parts_in (at_most_one name syntax rest) trees)
    ≡ (is_some (read (at_front test trees).0) && is_some (parts_in rest (at_front test trees).1))
optional_same name syntax rest test read same free law Nothing =
    is_mapped Empty (parts_in rest Nothing) ∙ rw free refl
optional_same name syntax rest test read same free law (Then x xs) =
    ⊎_elim
    (λ (e : test (tag_of x) ≡ true).
    rw (same (tag_of x) ∙ e, e) (is_both Filled (denoted false syntax x) (parts_in rest xs)
    ∙ ap (λ b. b && is_some (parts_in rest xs)) (sym (law x e))))
    (λ (e : test (tag_of x) ≡ false).
    rw (same (tag_of x) ∙ e, e, free) (is_mapped Empty (parts_in rest (Then x xs))))
    (cases_Bool (test (tag_of x)))

-- a component that is always there
pub first_same : (name : List ℕ) (syntax : TypeSyntax) (rest : TypeParts) (x : TreeValue) (xs : TreeValues)
    → (begins syntax (tag_of x) ≡ false → is_some (denoted false syntax x) ≡ false)
    → is_some (parts_in (one name syntax rest) (Then x xs))
    ≡ (is_some (denoted false syntax x) && is_some (parts_in rest xs))
first_same name syntax rest x xs law =
    ⊎_elim
    (λ (e : begins syntax (tag_of x) ≡ true). rw e (is_both Filled (denoted false syntax x) (parts_in rest xs)))
    (λ (e : begins syntax (tag_of x) ≡ false). rw (e, law e) refl)
    (cases_Bool (begins syntax (tag_of x)))

where_same : {A B : Type 0} (read : B → Option A) (last : Bool) (front : B)
    → is_some (option_and_then read (if last then Some front else None)) ≡ (is_some (read front) && last)
where_same read true front = and_true (is_some (read front))
  where
    and_true : (b : Bool) → b ≡ (b && true)
    and_true true = refl
    and_true false = refl
where_same read false front = and_false (is_some (read front))
  where
    and_false : (b : Bool) → false ≡ (b && false)
    and_false true = refl
    and_false false = refl

-- the last component, which may be left out
pub last_same : {A : Type 0} (name : List ℕ) (syntax : TypeSyntax) (number : ℕ) (read : Option TreeValue → Option A)
    → ((tag : Tag) → begins syntax tag ≡ is_context number tag) → is_some (read None) ≡ true
    → ((x : TreeValue) → is_context number (tag_of x) ≡ true
    → is_some (read (Some x)) ≡ is_some (denoted false syntax x))
    → (trees : TreeValues) → is_some (option_and_then read (at_end number trees))
    ≡ is_some (parts_in (at_most_one name syntax NoParts) trees)
last_same name syntax number read same free law trees =
    let front = at_front (is_context number) trees in
    where_same read (no_trees front.1) front.0
    ∙ (ap (λ b. is_some (read front.0) && b) (sym (end_same front.1))
    ∙ sym (optional_same name syntax NoParts (is_context number) read same free law trees))
