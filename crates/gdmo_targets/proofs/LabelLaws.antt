-- LabelLaws: the template that a label means stands among the templates and has this label, and a label that means
-- nothing is that of no template.
use Rattle.std.specs.Prelude.{◌≡◌, ℕ, zero, suc, Contains, List, [], ◌∷◌, Bool, true, false, Option, None, Some}
use Rattle.std.specs.Prelude.{All, refl, unwrap_or}
use Rattle.std.specs.Prelude.{if◌then◌else◌}
use Rattle.std.proofs.Common.{ap, arith}
use Rattle.std.proofs.Math.Path.{subst}
use Rattle.asn1_names.specs.NameMeaning.{is_called}
use Rattle.gdmo_names.specs.DocumentTemplates.{templates}
use Rattle.gdmo_names.specs.LabelMeaning.{earlier, first_called, label_meaning, stands_before}
use Rattle.gdmo_names.specs.PartTerms.{Placed, PartTerms, label_of}

-- what holds of two holds of the one that a test takes
taken_has : (test : Bool) (x y to : Placed) (P : Placed → Type 0) → P x → P y →
    (if test then Some y else Some x) ≡ Some to → P to
taken_has true x y to P here there is = subst P (ap (λ z. unwrap_or z x) is) there
taken_has false x y to P here there is = subst P (ap (λ z. unwrap_or z x) is) here

earlier_has : (x : Placed) (found : Option Placed) (to : Placed) (P : Placed → Type 0) → P x →
    ((y : Placed) → found ≡ Some y → P y) → earlier x found ≡ Some to → P to
earlier_has x None to P here there is = subst P (ap (λ z. unwrap_or z x) is) here
earlier_has x (Some y) to P here there is = taken_has (stands_before y x) x y to P here (there y refl) is

-- one of two is always taken
taken_is : (test : Bool) (x y : Placed) → (if test then Some y else Some x) ≡ None → ⊥
taken_is true x y is = absurd (cc)
taken_is false x y is = absurd (cc)

earlier_is : (x : Placed) (found : Option Placed) → earlier x found ≡ None → ⊥
earlier_is x None is = absurd (cc)
earlier_is x (Some y) is = taken_is (stands_before y x) x y is

called_has : (x : Placed) (found : Option Placed) (to : Placed) (P : Placed → Type 0) (test : Bool) →
    (test ≡ true → P x) → ((y : Placed) → found ≡ Some y → P y) →
    (if test then earlier x found else found) ≡ Some to → P to
called_has x found to P true here there is = earlier_has x found to P (here refl) there is
called_has x found to P false here there is = there to is

abbrev Labelled : List ℕ → Placed → Type 0
Labelled label x = is_called label (label_of x.template) ≡ true

pub first_has_label : (label : List ℕ) (xs : List Placed) (to : Placed) → first_called label xs ≡ Some to →
    Labelled label to
unfolding first_called
first_has_label label [] to is = absurd (cc)
first_has_label label (x ∷ xs) to is = called_has x (first_called label xs) to (Labelled label)
    (is_called label (label_of x.template)) (λ here. here) (λ y found. first_has_label label xs y found) is

-- what stands in a list stands in a longer one
stands_behind : (x y : Placed) (xs : List Placed) → Contains xs y → Contains (x ∷ xs) y
stands_behind x y xs stands = (suc stands.0, omega (arith, stands.1), stands.2)

pub first_stands : (label : List ℕ) (xs : List Placed) (to : Placed) → first_called label xs ≡ Some to → Contains xs to
unfolding first_called
first_stands label [] to is = absurd (cc)
first_stands label (x ∷ xs) to is = called_has x (first_called label xs) to (Contains (x ∷ xs))
    (is_called label (label_of x.template)) (λ here. (0, omega arith, refl))
    (λ y found. stands_behind x y xs (first_stands label xs y found)) is

-- the template that a label means stands among the templates
pub meaning_stands : (parts : PartTerms) (label : List ℕ) (to : Placed) → label_meaning parts label ≡ Some to →
    Contains (templates parts) to
unfolding label_meaning
meaning_stands parts label to is = first_stands label (templates parts) to is

-- the template that a label means has this label
pub meaning_has_label : (parts : PartTerms) (label : List ℕ) (to : Placed) → label_meaning parts label ≡ Some to →
    is_called label (label_of to.template) ≡ true
unfolding label_meaning
meaning_has_label parts label to is = first_has_label label (templates parts) to is

not_called : (label : List ℕ) (x : Placed) (found : Option Placed) (test : Bool) →
    is_called label (label_of x.template) ≡ test → (if test then earlier x found else found) ≡ None →
    (is_called label (label_of x.template) ≡ false) × (found ≡ None)
not_called label x found true here is = absurd (earlier_is x found is)
not_called label x found false here is = (here, is)

pub none_has_label : (label : List ℕ) (xs : List Placed) → first_called label xs ≡ None →
    All (λ x. is_called label (label_of x.template) ≡ false) xs
unfolding first_called
none_has_label label [] is k d below = absurd (omega (arith, below))
none_has_label label (x ∷ xs) is zero d below =
    (not_called label x (first_called label xs) (is_called label (label_of x.template)) refl is).0
none_has_label label (x ∷ xs) is (suc k) d below = none_has_label label xs
    (not_called label x (first_called label xs) (is_called label (label_of x.template)) refl is).1 k d
    (omega (arith, below))

-- a label that means nothing is that of no template
pub nothing_has_label : (parts : PartTerms) (label : List ℕ) → label_meaning parts label ≡ None →
    All (λ x. is_called label (label_of x.template) ≡ false) (templates parts)
unfolding label_meaning
nothing_has_label parts label is = none_has_label label (templates parts) is
