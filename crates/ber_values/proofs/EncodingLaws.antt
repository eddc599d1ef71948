-- What is written of components, alternatives and members, one more or one less.
use Rattle.std.proofs.Common.{◌≡◌, ◌+◌, reverse, ℕ, List, ◌∷◌, ◌++◌, drop, None, ap, sym, ◌∙◌, append_assoc}
use Rattle.std.proofs.lemmas.List.{reverse-append}
use Rattle.term_values.specs.Components.{slot_octets}
use Rattle.term_values.specs.PartsView.{parts_listed}
use Rattle.term_values.specs.Rearranged.{joined}
use Rattle.term_values.specs.SlotsView.{slots_listed}
use Rattle.term_values.specs.Written.{der_as, part_encodings}
use Rattle.term_values.specs.declared.syntax.Part.{Part}
use Rattle.term_values.specs.declared.value.Slot.{Slot}
use Rattle.term_values.proofs.ComponentLaws.{one_written}
pub use Rattle.term_values.proofs.ComponentLaws.{all_passed, one_encoded, pick_at, pick_past}

-- one component more stands in front, the last octet first
pub part_step : (old into new : List ℕ) (xs : List Part) (ys : List Slot) (j : ℕ) (x : Part) (y : Slot)
    → drop j xs ≡ x ∷ drop (j + 1) xs → drop j ys ≡ y ∷ drop (j + 1) ys
    → into ≡ old ++ reverse (joined (part_encodings (parts_listed (drop (j + 1) xs)) (slots_listed (drop (j + 1) ys))))
    → new ≡ into ++ reverse (slot_octets x.default (der_as None x.syntax) y)
    → new ≡ old ++ reverse (joined (part_encodings (parts_listed (drop j xs)) (slots_listed (drop j ys))))
part_step old into new xs ys j x y e f before after =
    let rest = joined (part_encodings (parts_listed (drop (j + 1) xs)) (slots_listed (drop (j + 1) ys))) in
    let front = slot_octets x.default (der_as None x.syntax) y in
    rw (e, f) (after ∙ ap (λ zs. zs ++ reverse front) before ∙ append_assoc old (reverse rest) (reverse front)
    ∙ ap (λ zs. old ++ zs) (sym (reverse-append front rest))
    ∙ ap (λ zs. old ++ reverse zs) (sym (one_written x (drop (j + 1) xs) y (drop (j + 1) ys))))
