-- Members added and removed are the union and the difference of sets of values: X.711, type ModifyOperator.
use Rattle.std.proofs.Common.{◌≡◌, ◌⊎◌, ℕ, Bool, true, false, cond, List, ◌∷◌, refl, sym, ap, ◌∙◌, inl, inr}
use Rattle.std.proofs.Common.{subst}
use Rattle.std.proofs.lemmas.Bool.{false≢true, or_cases, or_left, or_right}
use Rattle.std.proofs.lemmas.Slice.Eq.{bytes_eq-Decides}
use Rattle.term_values.specs.Decoding.{inserted_by, rising_by}
use Rattle.term_values.specs.Fits.{AllFit}
use Rattle.term_values.specs.Matching.{Have}
use Rattle.term_values.specs.Rearranged.{may_precede}
use Rattle.term_values.specs.SameValue.{same_octets}
use Rattle.term_values.specs.Syntaxes.{TypeSyntax}
use Rattle.term_values.specs.Typed.{TypedValue, TypedValues}
use Rattle.term_values.specs.Typed.TypedValues.{Nothing, Then}
use Rattle.term_values.specs.ValueContents.{member_encodings}
use Rattle.term_values.specs.Written.{der}
use Rattle.typed_laws.proofs.WritingStatements.{one_value_written_holds}
use Rattle.typed_laws.specs.WritingLaws.{CanBeWritten}
use Rattle.set_values.specs.MembersByValue.{AddedAreUnion, RemovedAreDifference}
use Rattle.term_values.specs.SetMembers.{is_among, new_members, other_members, followed_by, added}

-- ---- members and their encodings

fact_of : (P : TypedValue → Type 0) (xs : TypedValues) (v : TypedValue) → AllFit P xs → Have xs v → P v
fact_of P Nothing v all h = absurd h
fact_of P (Then x xs) v all (inl e) = subst P e all.0
fact_of P (Then x xs) v all (inr h) = fact_of P xs v all.1 h

have_among : (encoding : TypedValue → List ℕ) (xs : TypedValues) (v : TypedValue) → Have xs v
    → is_among (encoding v) (member_encodings encoding xs) ≡ true
have_among encoding Nothing v h = absurd h
have_among encoding (Then x xs) v (inl e) =
    or_left (same_octets (encoding v) (encoding x)) _
    ((bytes_eq-Decides (encoding v) (encoding x)).1 (ap encoding (sym e)))
have_among encoding (Then x xs) v (inr h) =
    or_right (same_octets (encoding v) (encoding x)) (is_among (encoding v) (member_encodings encoding xs))
    (have_among encoding xs v h)

-- no two members have one encoding
abbrev Tells : (TypedValue → List ℕ) → (TypedValue → Type 0) → Type 0
Tells encoding P = (x y : TypedValue) → P x → P y → encoding x ≡ encoding y → x ≡ y

among_have : (encoding : TypedValue → List ℕ) (P : TypedValue → Type 0) → Tells encoding P → (xs : TypedValues)
    (v : TypedValue) → AllFit P xs → P v → is_among (encoding v) (member_encodings encoding xs) ≡ true → Have xs v
among_have encoding P tells Nothing v all p e = absurd (false≢true e)
among_have encoding P tells (Then x xs) v all p e =
    elim (or_cases (same_octets (encoding v) (encoding x)) (is_among (encoding v) (member_encodings encoding xs)) e) [
      | inl same ↦ inl (tells x v all.0 p (sym ((bytes_eq-Decides (encoding v) (encoding x)).0 same)))
      | inr among ↦ inr (among_have encoding P tells xs v all.1 p among)
    ]

-- ---- members in another order, and behind others

inserted_have : (encoding : TypedValue → List ℕ) (x : TypedValue) (ys : TypedValues) (v : TypedValue)
    → Have (inserted_by encoding x ys) v → (x ≡ v) ⊎ Have ys v
inserted_have encoding x Nothing v h = h
inserted_have encoding x (Then y ys) v h =
    either (may_precede (encoding x) (encoding y)) h (inserted_have encoding x ys v)
  where
    either : (c : Bool) → Have (cond c (Then x (Then y ys)) (Then y (inserted_by encoding x ys))) v
        → (Have (inserted_by encoding x ys) v → (x ≡ v) ⊎ Have ys v) → (x ≡ v) ⊎ Have (Then y ys) v
    either true h later = h
    either false (inl e) later = inr (inl e)
    either false (inr h) later = elim (later h) [ inl e ↦ inl e | inr k ↦ inr (inr k) ]

have_inserted : (encoding : TypedValue → List ℕ) (x : TypedValue) (ys : TypedValues) (v : TypedValue)
    → (x ≡ v) ⊎ Have ys v → Have (inserted_by encoding x ys) v
have_inserted encoding x Nothing v h = h
have_inserted encoding x (Then y ys) v h =
    either (may_precede (encoding x) (encoding y)) h (have_inserted encoding x ys v)
  where
    either : (c : Bool) → (x ≡ v) ⊎ Have (Then y ys) v → ((x ≡ v) ⊎ Have ys v → Have (inserted_by encoding x ys) v)
        → Have (cond c (Then x (Then y ys)) (Then y (inserted_by encoding x ys))) v
    either true h later = h
    either false (inl e) later = inr (later (inl e))
    either false (inr (inl e)) later = inl e
    either false (inr (inr h)) later = inr (later (inr h))

rising_have : (encoding : TypedValue → List ℕ) (xs : TypedValues) (v : TypedValue) → Have (rising_by encoding xs) v
    → Have xs v
rising_have encoding Nothing v h = h
rising_have encoding (Then x xs) v h =
    elim (inserted_have encoding x (rising_by encoding xs) v h) [
      | inl e ↦ inl e
      | inr k ↦ inr (rising_have encoding xs v k)
    ]

have_rising : (encoding : TypedValue → List ℕ) (xs : TypedValues) (v : TypedValue) → Have xs v
    → Have (rising_by encoding xs) v
have_rising encoding Nothing v h = h
have_rising encoding (Then x xs) v (inl e) = have_inserted encoding x (rising_by encoding xs) v (inl e)
have_rising encoding (Then x xs) v (inr h) =
    have_inserted encoding x (rising_by encoding xs) v (inr (have_rising encoding xs v h))

followed_have : (xs ys : TypedValues) (v : TypedValue) → Have (followed_by xs ys) v → Have xs v ⊎ Have ys v
followed_have Nothing ys v h = inr h
followed_have (Then x xs) ys v (inl e) = inl (inl e)
followed_have (Then x xs) ys v (inr h) =
    elim (followed_have xs ys v h) [ inl k ↦ inl (inr k) | inr k ↦ inr k ]

have_front : (xs ys : TypedValues) (v : TypedValue) → Have xs v → Have (followed_by xs ys) v
have_front Nothing ys v h = absurd h
have_front (Then x xs) ys v (inl e) = inl e
have_front (Then x xs) ys v (inr h) = inr (have_front xs ys v h)

have_behind : (xs ys : TypedValues) (v : TypedValue) → Have ys v → Have (followed_by xs ys) v
have_behind Nothing ys v h = h
have_behind (Then x xs) ys v h = inr (have_behind xs ys v h)

-- ---- a member that is kept unless a test holds

kept_have : (b : Bool) (x : TypedValue) (others : TypedValues) (v : TypedValue) → Have (cond b others (Then x others)) v
    → ((x ≡ v) × (b ≡ false)) ⊎ Have others v
kept_have true x others v h = inr h
kept_have false x others v (inl e) = inl (e, refl)
kept_have false x others v (inr h) = inr h

have_first : (b : Bool) (x : TypedValue) (others : TypedValues) (v : TypedValue) → b ≡ false → x ≡ v
    → Have (cond b others (Then x others)) v
have_first true x others v none e = absurd (false≢true (sym none))
have_first false x others v none e = inl e

have_other : (b : Bool) (x : TypedValue) (others : TypedValues) (v : TypedValue) → Have others v
    → Have (cond b others (Then x others)) v
have_other true x others v h = h
have_other false x others v h = inr h

-- ---- members that are added

new_have : (encoding : TypedValue → List ℕ) (there : List (List ℕ)) (xs : TypedValues) (v : TypedValue)
    → Have (new_members encoding there xs) v → Have xs v
new_have encoding there Nothing v h = h
new_have encoding there (Then x xs) v h =
    elim (kept_have (is_among (encoding x) there) x (new_members encoding (encoding x ∷ there) xs) v h) [
      | inl p ↦ inl p.0
      | inr k ↦ inr (new_have encoding (encoding x ∷ there) xs v k)
    ]

-- a member is new, or its encoding was there
have_new : (encoding : TypedValue → List ℕ) (P : TypedValue → Type 0) → Tells encoding P → (there : List (List ℕ))
    (xs : TypedValues) (v : TypedValue) → AllFit P xs → P v → Have xs v
    → (is_among (encoding v) there ≡ true) ⊎ Have (new_members encoding there xs) v
have_new encoding P tells there Nothing v all p h = absurd h
have_new encoding P tells there (Then x xs) v all p h =
    step h (have_new encoding P tells (encoding x ∷ there) xs v all.1 p)
  where
    first : (b : Bool) → is_among (encoding x) there ≡ b → x ≡ v
        → (is_among (encoding v) there ≡ true)
        ⊎ Have (cond (is_among (encoding x) there) (new_members encoding (encoding x ∷ there) xs)
        (Then x (new_members encoding (encoding x ∷ there) xs))) v
    first true is e = inl (ap (λ y. is_among (encoding y) there) (sym e) ∙ is)
    first false is e =
        inr (have_first (is_among (encoding x) there) x (new_members encoding (encoding x ∷ there) xs) v is e)

    step : (x ≡ v) ⊎ Have xs v
        → (Have xs v → (is_among (encoding v) (encoding x ∷ there) ≡ true)
        ⊎ Have (new_members encoding (encoding x ∷ there) xs) v)
        → (is_among (encoding v) there ≡ true)
        ⊎ Have (cond (is_among (encoding x) there) (new_members encoding (encoding x ∷ there) xs)
        (Then x (new_members encoding (encoding x ∷ there) xs))) v
    step (inl e) later = first (is_among (encoding x) there) refl e
    step (inr h) later =
        elim (later h) [
          | inl among ↦
              elim (or_cases (same_octets (encoding v) (encoding x)) (is_among (encoding v) there) among) [
                | inl same ↦
                    first (is_among (encoding x) there) refl
                    (tells x v all.0 p (sym ((bytes_eq-Decides (encoding v) (encoding x)).0 same)))
                | inr before ↦ inl before
              ]
          | inr k ↦
              inr (have_other (is_among (encoding x) there) x (new_members encoding (encoding x ∷ there) xs) v k)
        ]

writing_tells : (member : TypeSyntax) → Tells (der member) (CanBeWritten member)
writing_tells member x y p q e = one_value_written_holds member x y p q e

pub added_are_union : AddedAreUnion
added_are_union = λ member held given v all more. (there member held given v, back member held given v all more)
  where
    there : (member : TypeSyntax) (held given : TypedValues) (v : TypedValue)
        → Have (added (der member) held given) v → Have held v ⊎ Have given v
    there member held given v h =
        let new = new_members (der member) (member_encodings (der member) held) given in
        elim (followed_have held new v (rising_have (der member) (followed_by held new) v h)) [
          | inl k ↦ inl k
          | inr k ↦ inr (new_have (der member) (member_encodings (der member) held) given v k)
        ]

    back : (member : TypeSyntax) (held given : TypedValues) (v : TypedValue) → AllFit (CanBeWritten member) held
        → AllFit (CanBeWritten member) given → Have held v ⊎ Have given v → Have (added (der member) held given) v
    back member held given v all more (inl h) =
        let new = new_members (der member) (member_encodings (der member) held) given in
        have_rising (der member) (followed_by held new) v (have_front held new v h)
    back member held given v all more (inr h) =
        let encodings = member_encodings (der member) held in
        let new = new_members (der member) encodings given in
        let p = fact_of (CanBeWritten member) given v more h in
        elim (have_new (der member) (CanBeWritten member) (writing_tells member) encodings given v more p h) [
          | inl among ↦
              have_rising (der member) (followed_by held new) v (have_front held new v
              (among_have (der member) (CanBeWritten member) (writing_tells member) held v all p among))
          | inr k ↦ have_rising (der member) (followed_by held new) v (have_behind held new v k)
        ]

-- ---- members that are removed

other_have : (encoding : TypedValue → List ℕ) (taken : List (List ℕ)) (xs : TypedValues) (v : TypedValue)
    → Have (other_members encoding taken xs) v → Have xs v × (is_among (encoding v) taken ≡ false)
other_have encoding taken Nothing v h = absurd h
other_have encoding taken (Then x xs) v h =
    elim (kept_have (is_among (encoding x) taken) x (other_members encoding taken xs) v h) [
      | inl p ↦ (inl p.0, ap (λ y. is_among (encoding y) taken) (sym p.0) ∙ p.1)
      | inr k ↦ let q = other_have encoding taken xs v k in (inr q.0, q.1)
    ]

have_others : (encoding : TypedValue → List ℕ) (taken : List (List ℕ)) (xs : TypedValues) (v : TypedValue)
    → is_among (encoding v) taken ≡ false → Have xs v → Have (other_members encoding taken xs) v
have_others encoding taken Nothing v none h = h
have_others encoding taken (Then x xs) v none (inl e) =
    have_first (is_among (encoding x) taken) x (other_members encoding taken xs) v
    (ap (λ y. is_among (encoding y) taken) e ∙ none) e
have_others encoding taken (Then x xs) v none (inr h) =
    have_other (is_among (encoding x) taken) x (other_members encoding taken xs) v
    (have_others encoding taken xs v none h)

unless_true : (b : Bool) → (b ≡ true → ⊥) → b ≡ false
unless_true true h = absurd (h refl)
unless_true false h = refl

pub removed_are_difference : RemovedAreDifference
removed_are_difference = λ member held given v all gone. (
  λ h.
      let p = other_have (der member) (member_encodings (der member) given) held v h in
      (p.0, λ k. false≢true (sym p.1 ∙ have_among (der member) given v k)),
  λ p.
      have_others (der member) (member_encodings (der member) given) held v
      (unless_true (is_among (der member v) (member_encodings (der member) given))
      (λ among. p.1 (among_have (der member) (CanBeWritten member) (writing_tells member) given v gone
      (fact_of (CanBeWritten member) held v all p.0) among))) p.0,
)
