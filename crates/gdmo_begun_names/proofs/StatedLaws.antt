-- StatedLaws: the identifiers of modules and of templates are those that stand in documents.
use Rattle.std.proofs.Common.{◌≡◌, ◌⊎◌, ◌<◌, ℕ, zero, suc, List, [], ◌∷◌, ◌++◌, refl, sym, arith}
use Rattle.std.proofs.Common.{inl, inr, get_or, length, map, subst}
use Rattle.std.specs.Prelude.{Contains, flat_map}
use Rattle.asn1_syntax.specs.declared.module.Module.{Module}
use Rattle.token_grammar.specs.declared.token.Token.{Token}
use Rattle.gdmo_names.specs.declared.found.Found.{Found}
use Rattle.gdmo_names.specs.DocumentTemplates.{templates}
use Rattle.gdmo_names.specs.FirstNames.{StandsIdentifier}
use Rattle.gdmo_names.specs.FirstNames.StandsIdentifier.{of_template, of_module}
use Rattle.gdmo_names.specs.FoundViews.{AreTemplates, found_view}
use Rattle.gdmo_names.specs.PartTerms.{PartTerms}
use Rattle.gdmo_names.specs.PartViews.{module_part}
use Rattle.gdmo_names.specs.TemplateTerms.{IdentifierTerm}
use Rattle.gdmo_begun_names.specs.declared.begun_names.BegunNames.{BegunNames}
use Rattle.gdmo_begun_names.specs.BegunMarks.{AnyFirst, FirstSet, Marks}
use Rattle.gdmo_begun_names.specs.StatedNames.{FirstsOfModule, FirstsOfModules, StatedFirst, StatedFirsts}
use Rattle.gdmo_begun_names.specs.StatedNames.{TemplateFirst}
use Rattle.gdmo_begun_names.proofs.MarkLaws.{both_marked, marked_by}

-- ---- lists in a row

any_both : {X : Type 0} (F : X → FirstSet) (xs ys : List X) (t : Token) → AnyFirst F xs t ⊎ AnyFirst F ys t →
    AnyFirst F (xs ++ ys) t
any_both F [] ys t (inl h) = absurd h
any_both F [] ys t (inr h) = h
any_both F (x ∷ xs) ys t (inl (inl h)) = inl h
any_both F (x ∷ xs) ys t (inl (inr h)) = inr (any_both F xs ys t (inl h))
any_both F (x ∷ xs) ys t (inr h) = inr (any_both F xs ys t (inr h))

any_parted : {X : Type 0} (F : X → FirstSet) (xs ys : List X) (t : Token) → AnyFirst F (xs ++ ys) t →
    AnyFirst F xs t ⊎ AnyFirst F ys t
any_parted F [] ys t h = inr h
any_parted F (x ∷ xs) ys t (inl h) = inl (inl h)
any_parted F (x ∷ xs) ys t (inr h) = elim (any_parted F xs ys t h) as
    (λ _. AnyFirst F (x ∷ xs) t ⊎ AnyFirst F ys t) [
      | inl one ↦ inl (inr one)
      | inr other ↦ inr other
    ]

pub marked_append : {X : Type 0} (F : X → FirstSet) (xs ys : List X) {before between after : BegunNames} →
    Marks (AnyFirst F xs) before between → Marks (AnyFirst F ys) between after →
    Marks (AnyFirst F (xs ++ ys)) before after
marked_append F xs ys p q = marked_by (λ t. AnyFirst F xs t ⊎ AnyFirst F ys t) (AnyFirst F (xs ++ ys))
    (any_both F xs ys) (any_parted F xs ys) (both_marked (AnyFirst F xs) (AnyFirst F ys) p q)

flat_to : {X Y : Type 0} (F : X → FirstSet) (view : Y → List X) (ys : List Y) (t : Token) →
    AnyFirst (λ y. AnyFirst F (view y)) ys t → AnyFirst F (flat_map view ys) t
flat_to F view [] t h = absurd h
flat_to F view (y ∷ ys) t (inl h) = any_both F (view y) (flat_map view ys) t (inl h)
flat_to F view (y ∷ ys) t (inr h) = any_both F (view y) (flat_map view ys) t (inr (flat_to F view ys t h))

flat_from : {X Y : Type 0} (F : X → FirstSet) (view : Y → List X) (ys : List Y) (t : Token) →
    AnyFirst F (flat_map view ys) t → AnyFirst (λ y. AnyFirst F (view y)) ys t
flat_from F view [] t h = absurd h
flat_from F view (y ∷ ys) t h = elim (any_parted F (view y) (flat_map view ys) t h) as
    (λ _. AnyFirst (λ y. AnyFirst F (view y)) (y ∷ ys) t) [
      | inl one ↦ inl one
      | inr other ↦ inr (flat_from F view ys t other)
    ]

pub marked_flat : {X Y : Type 0} (F : X → FirstSet) (view : Y → List X) (xs : List X) (ys : List Y)
    {before between after : BegunNames} → Marks (AnyFirst F xs) before between →
    Marks (AnyFirst (λ y. AnyFirst F (view y)) ys) between after →
    Marks (AnyFirst F (xs ++ flat_map view ys)) before after
marked_flat F view xs ys p q = marked_append F xs (flat_map view ys) p
    (marked_by (AnyFirst (λ y. AnyFirst F (view y)) ys) (AnyFirst F (flat_map view ys)) (flat_to F view ys)
    (flat_from F view ys) q)

pub marked_alone : {X : Type 0} (F : X → FirstSet) (x : X) {before after : BegunNames} → Marks (F x) before after →
    Marks (AnyFirst F (x ∷ [])) before after
marked_alone F x h = marked_by (F x) (AnyFirst F (x ∷ [])) (λ t o. inl o) (λ t a. elim a as (λ _. F x t) [
  | inl here ↦ here
  | inr there ↦ absurd there
]) h

-- ---- elements of lists

any_of : {X : Type 0} (F : X → FirstSet) (xs : List X) (t : Token) → AnyFirst F xs t →
    (x : X) × (Contains xs x) × F x t
any_of F [] t h = absurd h
any_of F (y ∷ ys) t (inl here) = (y, (0, omega arith, refl), here)
any_of F (y ∷ ys) t (inr behind) = let found = any_of F ys t behind in
    (found.0, (suc found.1.0, (let w = found.1.1 in omega (arith, w)), found.1.2), found.2)

pub any_at : {X : Type 0} (F : X → FirstSet) (xs : List X) (x : X) (n : ℕ) → n < length xs → get_or xs n x ≡ x →
    (t : Token) → F x t → AnyFirst F xs t
any_at F [] x n below is t h = absurd (omega (arith, below))
any_at F (y ∷ ys) x zero below is t h = inl (subst (λ z. F z t) (sym is) h)
any_at F (y ∷ ys) x (suc n) below is t h = inr (any_at F ys x n (omega (arith, below)) is t h)

any_map : {X Y : Type 0} (F : Y → FirstSet) (view : X → Y) (xs : List X) (t : Token) →
    AnyFirst (λ x. F (view x)) xs t → AnyFirst F (map view xs) t
any_map F view [] t h = absurd h
any_map F view (x ∷ xs) t (inl here) = inl here
any_map F view (x ∷ xs) t (inr behind) = inr (any_map F view xs t behind)

map_any : {X Y : Type 0} (F : Y → FirstSet) (view : X → Y) (xs : List X) (t : Token) →
    AnyFirst F (map view xs) t → AnyFirst (λ x. F (view x)) xs t
map_any F view [] t h = absurd h
map_any F view (x ∷ xs) t (inl here) = inl here
map_any F view (x ∷ xs) t (inr behind) = inr (map_any F view xs t behind)

-- ---- the identifiers of documents

stated : (parts : PartTerms) (t : Token) → AnyFirst FirstsOfModule parts.modules t ⊎
    AnyFirst TemplateFirst (templates parts) t → StatedFirsts parts t
stated parts t (inl h) = let part = any_of FirstsOfModule parts.modules t h in
    let x = any_of StatedFirst part.0.identifiers t part.2 in
    record { document = part.0.text.document; identifier = x.0; stands = of_module part.1 refl x.1; begins = x.2 }
stated parts t (inr h) = let by = any_of TemplateFirst (templates parts) t h in record {
  document = by.0.document;
  identifier = by.2.0;
  stands = of_template (record { stands = by.1; is = by.2.1 }) refl;
  begins = by.2.2;
}

states : (parts : PartTerms) (t : Token) (document : ℕ) (x : IdentifierTerm) → StandsIdentifier parts document x →
    StatedFirst x t → AnyFirst FirstsOfModule parts.modules t ⊎ AnyFirst TemplateFirst (templates parts) t
states parts t document x (of_template {by = by} registers is) begins =
    inr (any_at TemplateFirst (templates parts) by registers.stands.0 registers.stands.1 registers.stands.2 t
    (x, registers.is, begins))
states parts t document x (of_module {part = part} stands is own) begins =
    inl (any_at FirstsOfModule parts.modules part stands.0 stands.1 stands.2 t
    (any_at StatedFirst part.identifiers x own.0 own.1 own.2 t begins))

pub all_marked : (parts : PartTerms) (modules : List Module) (xs : List Found) {before between after : BegunNames} →
    parts.modules ≡ map module_part modules → AreTemplates parts xs → Marks (FirstsOfModules modules) before between →
    Marks (AnyFirst (λ found. TemplateFirst (found_view found)) xs) between after →
    Marks (StatedFirsts parts) before after
all_marked parts modules xs has are p q =
    let One : FirstSet = FirstsOfModules modules in
    let Other : FirstSet = AnyFirst (λ found. TemplateFirst (found_view found)) xs in
    marked_by (λ t. One t ⊎ Other t) (StatedFirsts parts)
    (λ t h. elim h as (λ _. StatedFirsts parts t) [
      | inl m ↦ stated parts t (inl (subst (λ ms. AnyFirst FirstsOfModule ms t) (sym has)
          (any_map FirstsOfModule module_part modules t m)))
      | inr f ↦ stated parts t (inr (subst (λ bs. AnyFirst TemplateFirst bs t) are
          (any_map TemplateFirst found_view xs t f)))
    ])
    (λ t s. elim (states parts t s.document s.identifier s.stands s.begins) as (λ _. One t ⊎ Other t) [
      | inl m ↦ inl (map_any FirstsOfModule module_part modules t
          (subst (λ ms. AnyFirst FirstsOfModule ms t) has m))
      | inr f ↦ inr (map_any TemplateFirst found_view xs t
          (subst (λ bs. AnyFirst TemplateFirst bs t) (sym are) f))
    ]) (both_marked One Other p q)
