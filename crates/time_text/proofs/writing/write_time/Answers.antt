use Rattle.std.proofs.Common.{ℕ, List, ◌≡◌, ◌∙◌, ◌∷◌, [], ◌/◌, ◌%◌, ap, sym, get_or}
use Rattle.term_values.specs.Moment.{digits_of}
use Rattle.time_text.specs.MomentParts.{parts_of}
use Rattle.time_text.specs.declared.parts.Parts.{Parts}
use Rattle.time_text.proofs.MomentLaws.{pairs_text, pairs_are}
use Rattle.time_text.proofs.writing.write_time.Goals as goal

-- seven lists of two digits in a row
in_a_row : (parts : Parts) (a b c d e f g : List ℕ) → a ≡ digits_of 2 (parts.year / 100)
    → b ≡ digits_of 2 (parts.year % 100)
    → c ≡ digits_of 2 parts.month → d ≡ digits_of 2 parts.day → e ≡ digits_of 2 parts.hour
    → f ≡ digits_of 2 parts.minute
    → g ≡ digits_of 2 parts.second
    → get_or a 0 0 ∷ (get_or a 1 0
    ∷ (get_or b 0 0 ∷ (get_or b 1 0 ∷ (get_or c 0 0 ∷ (get_or c 1 0 ∷ (get_or d 0 0 ∷ (get_or d 1 0
    ∷ (get_or e 0 0 ∷ (get_or e 1 0
    ∷ (get_or f 0 0 ∷ (get_or f 1 0 ∷ (get_or g 0 0 ∷ (get_or g 1 0 ∷ (90 ∷ []))))))))))))))
    ≡ pairs_text parts
in_a_row parts a b c d e f g first second third fourth fifth sixth seventh = λ i.
    get_or (first i) 0 0 ∷ (get_or (first i) 1 0
    ∷ (get_or (second i) 0 0 ∷ (get_or (second i) 1 0 ∷ (get_or (third i) 0 0
    ∷ (get_or (third i) 1 0 ∷ (get_or (fourth i) 0 0
    ∷ (get_or (fourth i) 1 0 ∷ (get_or (fifth i) 0 0 ∷ (get_or (fifth i) 1 0
    ∷ (get_or (sixth i) 0 0 ∷ (get_or (sixth i) 1 0
    ∷ (get_or (seventh i) 0 0 ∷ (get_or (seventh i) 1 0 ∷ (90 ∷ []))))))))))))))

pub returns : goal.returns
returns c =
    in_a_row c.parts_at-parts.result _ _ _ _ _ _ _ c.two_digits.ensures c.two_digits-2.ensures c.two_digits-3.ensures
    c.two_digits-4.ensures c.two_digits-5.ensures c.two_digits-6.ensures c.two_digits-7.ensures
    ∙ ap (λ (p : Parts). pairs_text p) (c.parts_at-parts.ensures.parts ∙ ap (λ s. parts_of s) c.min.ensures)
    ∙ sym (pairs_are _)
