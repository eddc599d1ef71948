-- What is known of the values of attributes, through the changes of an object.
use Rattle.std.proofs.Common.{◌≡◌, ℕ, zero, suc, ◌<◌, Bool, true, false, List, [], ◌∷◌, get_or, length, set}
use Rattle.std.proofs.Common.{arith, refl, sym, ap, ◌∙◌, replicate, subst}
use Rattle.std.specs.Prelude.{codes, map}
use Rattle.term_values.specs.FitTest.{value_fits}
use Rattle.term_values.specs.Syntaxes.{TypeSyntax}
use Rattle.term_values.specs.Typed.{TypedValue}
use Rattle.fitting_members.specs.MemberLengths.{members_length}
use Rattle.term_model.specs.declared.object.Attribute.{Attribute}
use Rattle.term_model.specs.declared.schema.AttrRec.{AttrRec}
use Rattle.term_model.specs.declared.schema.Set.{Set}
use Rattle.term_model.specs.ClassAttributes.{is_labelled, is_permitted}
use Rattle.term_model.specs.Modifications.{without_full}
use Rattle.object_modifications.specs.declared.knowing.Knowledge.{Knowledge}
use Rattle.object_modifications.specs.declared.knowing.Knowledge.TheVariants.{Untried, Fits, Misfits}
use Rattle.object_modifications.specs.Knowing.{AreKnown, Counts, IsKnown, Knows, forgotten}
use Rattle.object_modifications.specs.StatusPlaces.{full_taken, status_places}
use Rattle.object_modifications.proofs.StatusLaws.{all_taken, first_other, first_status, places_on, stays}

-- of a value that fits and is permitted the octets are known
pub known_fit : (syntax : TypeSyntax) (permitted : List TypeSyntax) (value : TypedValue) (told : Knowledge)
    → value_fits syntax value ≡ true → is_permitted permitted value ≡ true
    → Counts (members_length syntax value) told → Knows syntax permitted value told
known_fit syntax permitted value Untried fits permits counts = tt
known_fit syntax permitted value (Fits octets) fits permits counts = (fits, permits, counts)
known_fit syntax permitted value Misfits fits permits counts = tt

-- before the first modification nothing is known
pub known_untried : (schema : Set) (class : List ℕ) (xs : List Attribute) (n : ℕ)
    → AreKnown schema class xs (replicate n Untried)
known_untried schema class [] n = tt
known_untried schema class (x ∷ xs) zero = tt
known_untried schema class (x ∷ xs) (suc n) = (λ syntax property s p. tt, known_untried schema class xs n)

-- what is told at a place is so
pub known_here : (schema : Set) (class : List ℕ) (xs : List Attribute) (told : List Knowledge) (place : ℕ)
    (d : Attribute) → AreKnown schema class xs told → place < length xs
    → IsKnown schema class (get_or xs place d) (get_or told place Untried)
known_here schema class [] told place d all h = absurd (omega (arith, h))
known_here schema class (x ∷ xs) [] place d all h = λ syntax property s p. tt
known_here schema class (x ∷ xs) (first ∷ others) zero d all h = all.0
known_here schema class (x ∷ xs) (first ∷ others) (suc place) d all h =
    known_here schema class xs others place d all.1 (omega (arith, h))

-- and of another attribute there
pub known_set : (schema : Set) (class : List ℕ) (xs : List Attribute) (told : List Knowledge) (place : ℕ)
    (x : Attribute) (here : Knowledge) → AreKnown schema class xs told → IsKnown schema class x here
    → AreKnown schema class (set xs place x) (set told place here)
known_set schema class [] told place y here all is = tt
known_set schema class (x ∷ xs) [] zero y here all is = tt
known_set schema class (x ∷ xs) [] (suc place) y here all is = tt
known_set schema class (x ∷ xs) (first ∷ others) zero y here all is = (is, all.1)
known_set schema class (x ∷ xs) (first ∷ others) (suc place) y here all is =
    (all.0, known_set schema class xs others place y here all.1 is)

-- ---- logFull is taken away

nothing_forgotten : (places : List ℕ) → forgotten places [] ≡ []
nothing_forgotten [] = refl
nothing_forgotten (place ∷ places) = nothing_forgotten places

behind_forgotten : (places : List ℕ) (first : Knowledge) (others : List Knowledge)
    → forgotten (map suc places) (first ∷ others) ≡ first ∷ forgotten places others
behind_forgotten [] first others = refl
behind_forgotten (place ∷ places) first others = behind_forgotten places first (set others place Untried)

pub known_freed : (schema : Set) (class : List ℕ) (xs : List Attribute) (told : List Knowledge)
    → AreKnown schema class xs told
    → AreKnown schema class (map (without_full schema.attributes) xs)
    (forgotten (status_places schema.attributes 0 xs) told)
known_freed schema class [] told all = tt
known_freed schema class (x ∷ xs) [] all =
    subst (AreKnown schema class (map (without_full schema.attributes) (x ∷ xs)))
    (sym (nothing_forgotten (status_places schema.attributes 0 (x ∷ xs)))) tt
known_freed schema class (x ∷ xs) (first ∷ others) all =
    by (is_labelled schema.attributes (codes "availabilityStatus") x.id) refl
    (known_freed schema class xs others all.1)
  where
    left : List Attribute
    left = map (without_full schema.attributes) xs

    places : List ℕ
    places = status_places schema.attributes 0 xs

    by : (b : Bool) → is_labelled schema.attributes (codes "availabilityStatus") x.id ≡ b
        → AreKnown schema class left (forgotten places others)
        → AreKnown schema class (without_full schema.attributes x ∷ left)
        (forgotten (status_places schema.attributes 0 (x ∷ xs)) (first ∷ others))
    by true is rest =
        subst (AreKnown schema class (without_full schema.attributes x ∷ left))
        (sym
        (ap (λ ps. forgotten ps (first ∷ others)) (first_status schema.attributes 0 x xs is)
        ∙ ap (λ ps. forgotten ps (Untried ∷ others)) (places_on schema.attributes 0 xs)
        ∙ behind_forgotten places Untried others))
        (λ syntax property s p. tt, rest)
    by false is rest =
        let same : without_full schema.attributes x ≡ x = stays schema.attributes x is in
        subst (AreKnown schema class (without_full schema.attributes x ∷ left))
        (sym
        (ap (λ ps. forgotten ps (first ∷ others)) (first_other schema.attributes 0 x xs is)
        ∙ ap (λ ps. forgotten ps (first ∷ others)) (places_on schema.attributes 0 xs)
        ∙ behind_forgotten places first others))
        (subst (λ y. IsKnown schema class y first) (sym same) all.0, rest)

pub known_freed_by : (schema : Set) (class : List ℕ) (records : List AttrRec) (places : List ℕ) (xs ys : List Attribute)
    (told left : List Knowledge) → schema.attributes ≡ records → places ≡ status_places records 0 xs
    → AreKnown schema class xs told → ys ≡ full_taken records places xs → left ≡ forgotten places told
    → AreKnown schema class ys left
known_freed_by schema class records places xs ys told left same at all freed forgets =
    let es : ys ≡ map (without_full schema.attributes) xs =
    freed ∙ ap (λ ps. full_taken records ps xs) at ∙ all_taken records xs
    ∙ ap (λ rs. map (without_full rs) xs) (sym same) in
    let ks : left ≡ forgotten (status_places schema.attributes 0 xs) told =
    forgets ∙ ap (λ ps. forgotten ps told) (at ∙ ap (λ rs. status_places rs 0 xs) (sym same)) in
    subst (λ zs. AreKnown schema class zs left) (sym es)
    (subst (AreKnown schema class (map (without_full schema.attributes) xs)) (sym ks)
    (known_freed schema class xs told all))
