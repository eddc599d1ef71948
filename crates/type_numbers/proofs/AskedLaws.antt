-- AskedLaws: the numbers of the types that are meant, and that they stay.
use Rattle.std.proofs.Common.{◌≡◌, ◌⊎◌, ◌∙◌, ℕ, suc, zero, List, MatchOption, [], ◌∷◌, Option, None, Some, ap, inl, inr, refl, set, slice_get, sym}
use Rattle.std.proofs.Math.Path.{subst}
use Rattle.term_values.specs.Syntaxes.{TypeSyntax}
use Rattle.asn1_names.specs.AssignmentNumbers.{Numbered, numbered_at}
use Rattle.asn1_names.specs.CodeMeanings.{IsTypeNumber, IsTypeOf, Means}
use Rattle.asn1_names.specs.ModuleTerms.{ModuleTerm, TypeTerm}
use Rattle.asn1_names.specs.NameMeaning.{Meaning}
use Rattle.asn1_names.specs.TermViews.{module_terms, type_term}
use Rattle.asn1_names.specs.declared.name_tables.Meaning.{Meaning as CodeMeaning}
use Rattle.asn1_numbers.proofs.BaseLinkLaws.{number_type}
use Rattle.asn1_numbers.proofs.LeadingLaws.{same_type}
use Rattle.asn1_types.specs.ToldMeanings.{TellsSyntax}
use Rattle.key_numbers.specs.NumberedLists.{AreOnce, Grows, Row}
use Rattle.key_numbers.proofs.SketchLaws.{sketch_grows}
use Rattle.type_numbers.specs.AskedTypes.{AreNumbers, HasNumber, KeepsOthers, StayNumbers, TellsNumber}
use Rattle.type_numbers.specs.PlacedTerms.{placed_terms}
use Rattle.type_numbers.specs.TextLeads.{IsTextOf}
use Rattle.type_numbers.specs.declared.numbered_types.TypeNumbers.{TypeNumbers}
use Rattle.type_numbers.specs.declared.type_texts.PlacedText.{PlacedText}
use Rattle.type_numbers.proofs.MeantKeys.{found_key, found_number}
use Rattle.type_numbers.proofs.WalkLaws.{NumbersSyntax}

-- ---- what is told

pub asked_number : (ms types texts : List ModuleTerm) (meaning : CodeMeaning) (meant : Meaning)
    (at : Option (ℕ × TypeTerm)) (told : Option TypeSyntax) (syntax : TypeSyntax) (row : Row) (n : ℕ) → types ≡ ms →
    texts ≡ ms → ((m : Meaning) → Means types meaning m → TellsSyntax types m told) → told ≡ Some syntax →
    NumbersSyntax texts at syntax row n → Means ms meaning meant → IsTextOf meant at → HasNumber ms row meant n
asked_number ms types texts meaning meant at told syntax row n of_types of_texts has is numbered means text =
    let denoted = has meant (subst (λ xs. Means xs meaning meant) (sym of_types) means) in
    found_number ms meant at syntax row n (found_key ms meaning meant at syntax means text
    (subst (λ x. TellsSyntax ms meant x) is (subst (λ xs. TellsSyntax xs meant told) of_types denoted)))
    (subst (λ xs. NumbersSyntax xs at syntax row n) of_texts numbered)

no_number : (x : Numbered) → None ≡ Some x → ⊥
no_number x h = absurd (cc)

-- the text of an assigned type is that of the type that is meant
pub text_told : (ms texts : List ModuleTerm) (assignment : ℕ) (meant : Meaning) (text : Option PlacedText) → texts ≡ ms →
    MatchOption text (numbered_at texts assignment ≡ None)
    (λ t. IsTypeOf texts assignment t.module (type_term t.of.now)) → IsTypeNumber ms assignment meant →
    IsTextOf meant (placed_terms text)
text_told ms texts assignment meant None same told is =
    absurd (no_number is.numbered (sym (subst (λ xs. numbered_at xs assignment ≡ None) same told) ∙ is.at))
text_told ms texts assignment meant (Some t) same told is =
    let both = same_type ms assignment t.module is.numbered.in_module (type_term t.of.now) is.of
    (subst (λ xs. IsTypeOf xs assignment t.module (type_term t.of.now)) same told) (number_type ms assignment meant is) in
    subst (λ m. IsTextOf m (placed_terms (Some t))) (sym is.is) (λ i. Some (both.0 i, both.1 i))

-- ---- what stays

pub number_stays : (ms : List ModuleTerm) (before after : Row) (meant : Meaning) (n : ℕ) → Grows before after →
    HasNumber ms before meant n → HasNumber ms after meant n
number_stays ms before after meant n grows has = record {
  key = has.key;
  is_key = has.is_key;
  numbered = sketch_grows grows has.numbered;
}

pub numbers_stay : (ms : List ModuleTerm) (before after : TypeNumbers) → AreNumbers ms before →
    Grows before.lists after.lists → (AreOnce before.lists → AreOnce after.lists) → KeepsOthers before after →
    StayNumbers ms before after
numbers_stay ms before after are grows once others = record {
  are_numbers = record {
    of_types = ap (λ t. module_terms t.now) others.types ∙ are.of_types;
    of_texts = ap (λ t. module_terms t.now) others.texts ∙ are.of_texts;
    once = once are.once;
    known = λ a n at meant is. number_stays ms before.lists after.lists meant n grows
        (are.known a n (sym (ap (λ k. slice_get k.items a) others.known) ∙ at) meant is);
  };
  grows = grows;
}

-- what stands in a list of which one element was changed
got_set : {X : Type 0} (xs : List X) (k a : ℕ) (x y : X) → slice_get (set xs k x) a ≡ Some y →
    ((a ≡ k) × (x ≡ y)) ⊎ (slice_get xs a ≡ Some y)
got_set [] k a x y h = inr h
got_set (z ∷ xs) zero zero x y h = inl (refl, same h)
  where
    same : Some x ≡ Some y → x ≡ y
    same e = cc
got_set (z ∷ xs) zero (suc a) x y h = inr h
got_set (z ∷ xs) (suc k) zero x y h = inr h
got_set (z ∷ xs) (suc k) (suc a) x y h = up (got_set xs k a x y h)
  where
    up : ((a ≡ k) × (x ≡ y)) ⊎ (slice_get xs a ≡ Some y) →
        ((suc a ≡ suc k) × (x ≡ y)) ⊎ (slice_get xs a ≡ Some y)
    up (inl e) = inl (ap suc e.0, e.1)
    up (inr e) = inr e

-- the number of one more assignment is known
pub numbers_known : (ms : List ModuleTerm) (before between after : TypeNumbers) (assignment : ℕ)
    (number : Option ℕ) → AreNumbers ms before → StayNumbers ms before between → after.types ≡ between.types →
    after.texts ≡ between.texts → after.lists ≡ between.lists →
    after.known.items ≡ set between.known.items assignment number →
    ((meant : Meaning) → IsTypeNumber ms assignment meant → TellsNumber ms between.lists meant number) →
    StayNumbers ms before after
numbers_known ms before between after assignment number are stay types texts lists items told = record {
  are_numbers = record {
    of_types = ap (λ t. module_terms t.now) types ∙ stay.are_numbers.of_types;
    of_texts = ap (λ t. module_terms t.now) texts ∙ stay.are_numbers.of_texts;
    once = subst (λ row. AreOnce row) (sym lists) stay.are_numbers.once;
    known = λ a n at meant is. subst (λ row. HasNumber ms row meant n) (sym lists)
        (known a n meant is (got_set between.known.items assignment a number (Some n)
        (sym (ap (λ xs. slice_get xs a) items) ∙ at)));
  };
  grows = subst (λ row. Grows before.lists row) (sym lists) stay.grows;
}
  where
    known : (a n : ℕ) (meant : Meaning) → IsTypeNumber ms a meant →
        ((a ≡ assignment) × (number ≡ Some n)) ⊎ (slice_get between.known.items a ≡ Some (Some n)) →
        HasNumber ms between.lists meant n
    known a n meant is (inl e) =
        subst (TellsNumber ms between.lists meant) e.1 (told meant (subst (λ k. IsTypeNumber ms k meant) e.0 is))
    known a n meant is (inr at) = stay.are_numbers.known a n at meant is
