-- DoubleLaws: a label stands behind the first of its name exactly where an earlier template has it.
use Rattle.std.proofs.Common.{◌≡◌, ◌<◌, ◌∙◌, ℕ, zero, suc, List, [], ◌∷◌, Option, None, Some, refl, sym}
use Rattle.std.proofs.Common.{ap, arith, get_or, inl, inr, length}
use Rattle.std.specs.Prelude.{Bool, Contains, true, false, if◌then◌else◌}
use Rattle.std.specs.Cmp.Lexicographic.{bytes_decides, same_text}
use Rattle.std.proofs.lemmas.Bool.{true≢false}
use Rattle.std.proofs.Math.Path.{subst}
use Rattle.gdmo_names.specs.declared.first_fault.LabelFault.{LabelFault as NotedFault}
use Rattle.gdmo_names.specs.DocumentTemplates.{templates}
use Rattle.gdmo_names.specs.DoubleNames.{IsLabelledAgain}
use Rattle.gdmo_names.specs.DoubleNames.DoubleLabelAt.{template_label}
use Rattle.gdmo_names.specs.FaultSets.{AnyOf, FaultSet, LabelledTwice, Notes, ThisFault}
use Rattle.gdmo_names.specs.FirstLabelFault.LabelFault.{LabelDouble}
use Rattle.gdmo_names.specs.FirstLabelFault.{HasFault, LabelFault}
use Rattle.gdmo_names.specs.LabelMeaning.{earlier, first_called, label_meaning, stands_before}
use Rattle.gdmo_names.specs.LabelSteps.{DoubleBy, comes_behind}
use Rattle.gdmo_names.specs.PartTerms.{Placed, PartTerms, label_of}
use Rattle.gdmo_targets.proofs.LabelLaws.{meaning_has_label, meaning_stands, none_has_label}
use Rattle.gdmo_names.proofs.NotingLaws.{any_by, noted_by, one_not, one_there, some_is}
use Rattle.gdmo_targets.proofs.TableLaws.{Ahead, NoEarlier, ahead_of, behind_through, called, choice, not_ahead}

-- ---- the first of a label is behind no other

itself : (x : Placed) → NoEarlier x x
itself x = inr (refl, omega arith)

through : (x y z : Placed) → NoEarlier x y → NoEarlier y z → NoEarlier x z
through x y z (inl h) (inl i) = inl (omega (arith, h, i))
through x y z (inl h) (inr i) = inl (omega (arith, h, i.0))
through x y z (inr h) (inl i) = inl (omega (arith, h.0, i))
through x y z (inr h) (inr i) = inr (h.0 ∙ i.0, omega (arith, h.1, i.1))

turned : (x y : Placed) → Ahead x y → NoEarlier y x
turned x y (inl h) = inl h
turned x y (inr h) = inr (sym h.0, omega (arith, h.1))

chosen_least : (test : Bool) (x y e : Placed) → stands_before y x ≡ test → choice test y x ≡ Some e →
    NoEarlier x e × NoEarlier y e
chosen_least true x y e test_is is =
    subst (λ z. NoEarlier x z × NoEarlier y z) (some_is y e is) (turned y x (ahead_of y x test_is), itself y)
chosen_least false x y e test_is is =
    subst (λ z. NoEarlier x z × NoEarlier y z) (some_is x e is) (itself x, not_ahead y x test_is)

earlier_least : (x : Placed) (found : Option Placed) (e : Placed) → earlier x found ≡ Some e →
    NoEarlier x e × ((y : Placed) → found ≡ Some y → NoEarlier y e)
earlier_least x None e is = (subst (NoEarlier x) (some_is x e is) (itself x), λ y there. absurd (cc))
earlier_least x (Some y) e is =
    let both = chosen_least (stands_before y x) x y e refl is in
    (both.0, λ z there. subst (λ w. NoEarlier w e) (some_is y z there) both.1)

lost : (label : List ℕ) (ys : List Placed) (k : ℕ) (m : Placed) → k < length ys → get_or ys k m ≡ m →
    called label m ≡ true → first_called label ys ≡ None → ⊥
lost label ys k m below is here none_is = true≢false (sym here ∙
    sym (ap (called label) is) ∙ none_has_label label ys none_is k m below)

first_least : (label : List ℕ) (xs : List Placed) (k : ℕ) (m e : Placed) → k < length xs → get_or xs k m ≡ m →
    called label m ≡ true → first_called label xs ≡ Some e → NoEarlier m e
unfolding first_called
first_least label [] k m e below is here first_is = absurd (omega (arith, below))
first_least label (y ∷ ys) zero m e below is here first_is = by (called label y) (ap (called label) is ∙ here) first_is
  where
    by : (test : Bool) → test ≡ true →
        (if test then earlier y (first_called label ys) else first_called label ys) ≡ Some e → NoEarlier m e
    by true test_is found = subst (λ z. NoEarlier z e) is (earlier_least y (first_called label ys) e found).0
    by false test_is found = absurd (cc)
first_least label (y ∷ ys) (suc k) m e below is here first_is =
    by (called label y) (first_called label ys) refl (first_least label ys k m) first_is
  where
    within : k < length ys
    within = omega (arith, below)

    by : (test : Bool) (found : Option Placed) → first_called label ys ≡ found →
        ((z : Placed) → k < length ys → get_or ys k m ≡ m → called label m ≡ true → first_called label ys ≡ Some z →
        NoEarlier m z) → (if test then earlier y found else found) ≡ Some e → NoEarlier m e
    by true None found_is again all = absurd (lost label ys k m within is here found_is)
    by true (Some z) found_is again all =
        through m z e (again z within is here found_is) ((earlier_least y (Some z) e all).1 z refl)
    by false found found_is again all = again e within is here (found_is ∙ all)

-- ---- elements of a list

any_at : (Faults : Placed → FaultSet) (xs : List Placed) (x : Placed) (n : ℕ) → n < length xs → get_or xs n x ≡ x →
    (kind : LabelFault) (document token : ℕ) → Faults x kind document token → AnyOf Faults xs kind document token
any_at Faults [] x n below is kind document token fault = absurd (omega (arith, below))
any_at Faults (y ∷ ys) x zero below is kind document token fault =
    inl (subst (λ z. Faults z kind document token) (sym is) fault)
any_at Faults (y ∷ ys) x (suc n) below is kind document token fault =
    inr (any_at Faults ys x n (omega (arith, below)) is kind document token fault)

any_of : (Faults : Placed → FaultSet) (xs : List Placed) (kind : LabelFault) (document token : ℕ) →
    AnyOf Faults xs kind document token → (x : Placed) × (Contains xs x) × Faults x kind document token
any_of Faults [] kind document token fault = absurd fault
any_of Faults (y ∷ ys) kind document token (inl here) = (y, (0, omega arith, refl), here)
any_of Faults (y ∷ ys) kind document token (inr behind) =
    let found = any_of Faults ys kind document token behind in
    (found.0, (suc found.1.0, omega (arith, found.1.1), found.1.2), found.2)

-- ---- labels of two templates

-- a template stands behind the first of its label
abbrev pub BehindFirst : PartTerms → Placed → Type 0
BehindFirst parts x = comes_behind x (label_meaning parts (label_of x.template).text) ≡ true

abbrev pub DoubleAt : PartTerms → Placed → FaultSet
DoubleAt parts = DoubleBy (label_meaning parts)

again_of : (parts : PartTerms) (x : Placed) → Contains (templates parts) x → BehindFirst parts x →
    IsLabelledAgain parts x
again_of parts x stands behind = by (label_meaning parts (label_of x.template).text) refl behind
  where
    by : (first : Option Placed) → label_meaning parts (label_of x.template).text ≡ first →
        comes_behind x first ≡ true → IsLabelledAgain parts x
    by None first_is h = absurd (cc)
    by (Some y) first_is h = record {
      stands = stands;
      first = y;
      first_stands = meaning_stands parts (label_of x.template).text y first_is;
      before = h;
      same = (bytes_decides (label_of x.template).text (label_of y.template).text).1
          (sym (same_text (label_of y.template).text (label_of x.template).text
          (sym (meaning_has_label parts (label_of x.template).text y first_is))));
    }

behind_of : (parts : PartTerms) (x : Placed) → IsLabelledAgain parts x → BehindFirst parts x
unfolding label_meaning
behind_of parts x again = by (first_called label (templates parts)) refl
  where
    label : List ℕ
    label = (label_of x.template).text

    has : called label again.first ≡ true
    has = (bytes_decides (label_of again.first.template).text label).1
        (sym (same_text label (label_of again.first.template).text (sym again.same)))

    at : (e : Placed) → first_called label (templates parts) ≡ Some e → NoEarlier again.first e
    at e is = first_least label (templates parts) again.first_stands.0 again.first e again.first_stands.1
        again.first_stands.2 has is

    test : (e : Placed) (before : Bool) → stands_before e x ≡ before → NoEarlier again.first e → before ≡ true
    test e true is h = refl
    test e false is h =
        absurd (behind_through again.first x e h (not_ahead e x is) (ahead_of again.first x again.before))

    by : (first : Option Placed) → first_called label (templates parts) ≡ first → comes_behind x first ≡ true
    by None is = absurd (lost label (templates parts) again.first_stands.0 again.first again.first_stands.1
        again.first_stands.2 has is)
    by (Some e) is = test e (stands_before e x) refl (at e is)

behind_by_table : (parts : PartTerms) (table : List ℕ → Option Placed) (xs : List Placed)
    (before after : Option NotedFault) → ((label : List ℕ) → table label ≡ label_meaning parts label) →
    Notes (AnyOf (DoubleBy table) xs) before after → Notes (AnyOf (DoubleAt parts) xs) before after
behind_by_table parts table xs before after tells h = noted_by (AnyOf (DoubleBy table) xs) (AnyOf (DoubleAt parts) xs)
    (any_by (DoubleBy table) (DoubleAt parts) (λ x k d t fault.
    (ap (comes_behind x) (sym (tells (label_of x.template).text)) ∙ fault.0, fault.1, fault.2, fault.3)) xs)
    (any_by (DoubleAt parts) (DoubleBy table) (λ x k d t fault.
    (ap (comes_behind x) (tells (label_of x.template).text) ∙ fault.0, fault.1, fault.2, fault.3)) xs) h

-- what is noted of the labels of all templates is what the sentence says
pub twice_noted : (parts : PartTerms) (table : List ℕ → Option Placed) (xs : List Placed)
    (before after : Option NotedFault) → xs ≡ templates parts →
    ((label : List ℕ) → table label ≡ label_meaning parts label) →
    Notes (AnyOf (DoubleBy table) xs) before after → Notes (LabelledTwice parts) before after
twice_noted parts table xs before after is tells h =
    noted_by (AnyOf (DoubleAt parts) (templates parts)) (LabelledTwice parts)
    (λ k d t fault. (let one = any_of (DoubleAt parts) (templates parts) k d t fault in record {
      later = one.0;
      again = again_of parts one.0 one.1 one.2.0;
      is_in = one.2.2;
      is_at = one.2.3;
      is_double = one.2.1;
    }))
    (λ k d t fault. any_at (DoubleAt parts) (templates parts) fault.later fault.again.stands.0 fault.again.stands.1
    fault.again.stands.2 k d t (behind_of parts fault.later fault.again, fault.is_double, fault.is_in, fault.is_at))
    (subst (λ ys. Notes (AnyOf (DoubleAt parts) ys) before after) is
    (behind_by_table parts table xs before after tells h))

-- one label: it stands behind the first, or it doesn't
pub behind_noted : (meaning : List ℕ → Option Placed) (x : Placed) (key : List ℕ) (first : Option Placed)
    (before after : Option NotedFault) → key ≡ (label_of x.template).text → first ≡ meaning key →
    comes_behind x first ≡ true → Notes (ThisFault LabelDouble x.document (label_of x.template).at) before after →
    Notes (DoubleBy meaning x) before after
behind_noted meaning x key first before after key_is first_is test h =
    one_there (ap (λ k. comes_behind x (meaning k)) (sym key_is) ∙ ap (comes_behind x) (sym first_is) ∙ test) h

pub first_noted : (meaning : List ℕ → Option Placed) (x : Placed) (key : List ℕ) (first : Option Placed)
    (before : Option NotedFault) → key ≡ (label_of x.template).text → first ≡ meaning key →
    comes_behind x first ≡ false → Notes (DoubleBy meaning x) before before
first_noted meaning x key first before key_is first_is test =
    one_not LabelDouble x.document (label_of x.template).at before
    (λ h. true≢false (sym h ∙ ap (λ k. comes_behind x (meaning k)) (sym key_is) ∙ ap (comes_behind x) (sym first_is)
    ∙ test))

-- ---- what the sentence says of it

pub labelled_fault : (parts : PartTerms) (kind : LabelFault) (document token : ℕ) →
    LabelledTwice parts kind document token → HasFault parts kind document token
labelled_fault parts kind document token fault = subst (λ k. HasFault parts k document token) fault.is_double
    (template_label fault.again fault.is_in fault.is_at)

pub labelled_noted : (parts : PartTerms) (later : Placed) (document token : ℕ) → IsLabelledAgain parts later →
    later.document ≡ document → (label_of later.template).at ≡ token →
    LabelledTwice parts LabelDouble document token
labelled_noted parts later document token again is_in is_at =
    record { later = later; again = again; is_in = is_in; is_at = is_at; is_double = refl }
