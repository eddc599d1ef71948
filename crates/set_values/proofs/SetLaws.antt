-- Which members there are after members were added and removed, how often, and in which order: X.711, type
-- ModifyOperator; X.690, section 11.6.
use Rattle.std.proofs.Common.{◌≡◌, ◌+◌, ◌||◌, ℕ, zero, Bool, true, false, cond, List, [], ◌∷◌, map, refl, sym, ap, ◌∙◌}
use Rattle.std.proofs.Common.{subst, arith}
use Rattle.std.specs.Prelude.{if◌then◌else◌}
use Rattle.std.proofs.lemmas.Bool.{false≢true}
use Rattle.std.proofs.lemmas.Slice.Eq.{bytes_eq-Decides}
use Rattle.term_values.proofs.RisingLaws.{may_precede_through}
use Rattle.term_values.specs.Decoding.{inserted_by, rising_by}
use Rattle.term_values.specs.Fits.{Fits, AllFit}
use Rattle.term_values.specs.Rearranged.{IsRising, may_precede}
use Rattle.term_values.specs.SameValue.{same_octets}
use Rattle.term_values.specs.Typed.{TypedValue, TypedValues}
use Rattle.term_values.specs.Typed.TypedValues.{Nothing, Then}
use Rattle.term_values.specs.ValueContents.{member_encodings}
use Rattle.term_values.specs.Written.{der}
use Rattle.typed_laws.proofs.ListsTold.{rising_rises, values_of}
use Rattle.typed_laws.proofs.WritingStatements.{one_value_written_holds}
use Rattle.set_values.specs.MemberLaws.{times, AddedOften, RemovedOften, AddedRise, RemovedRise, AddedFit, RemovedFit}
use Rattle.set_values.specs.MemberLaws.{EqualEncodings}
use Rattle.term_values.specs.SetMembers.{is_among, new_members, other_members, followed_by}

-- ---- numbers beside tests

abbrev one_if : Bool → ℕ
one_if b = if b then 1 else 0

-- what is equal to another is among others where that is
same_among : (x y : List ℕ) (xs : List (List ℕ)) → same_octets x y ≡ true → is_among x xs ≡ is_among y xs
same_among x y xs e = ap (λ z. is_among z xs) ((bytes_eq-Decides x y).0 e)

none_often : (x : List ℕ) (xs : List (List ℕ)) → is_among x xs ≡ false → times x xs ≡ 0
none_often x [] e = refl
none_often x (y ∷ ys) e = either (same_octets x y) e (none_often x ys)
  where
    either : (s : Bool) → (s || is_among x ys) ≡ false → (is_among x ys ≡ false → times x ys ≡ 0)
        → (if s then 1 else 0) + times x ys ≡ 0
    either true e later = absurd (false≢true (sym e))
    either false e later = let l = later e in omega arith

nothing : (a : Bool) → zero ≡ (if a then zero else zero)
nothing true = refl
nothing false = refl

-- ---- members that are removed

dropped_often : (a s : Bool) (n : ℕ) → (s ≡ true → a ≡ true)
    → (if a then 0 else n) ≡ (if a then 0 else (one_if s + n))
dropped_often true s n h = refl
dropped_often false true n h = absurd (false≢true (h refl))
dropped_often false false n h = omega arith

kept_often : (a s : Bool) (n : ℕ) → (s ≡ true → a ≡ false)
    → one_if s + (if a then 0 else n) ≡ (if a then 0 else (one_if s + n))
kept_often true true n h = absurd (false≢true (sym (h refl)))
kept_often true false n h = refl
kept_often false s n h = refl

removed_often : (encoding : TypedValue → List ℕ) (taken : List (List ℕ)) (held : TypedValues) (x : List ℕ)
    → times x (member_encodings encoding (other_members encoding taken held))
    ≡ (if is_among x taken then 0 else times x (member_encodings encoding held))
removed_often encoding taken Nothing x = nothing (is_among x taken)
removed_often encoding taken (Then y ys) x =
    either (is_among (encoding y) taken) (same_among x (encoding y) taken) (removed_often encoding taken ys x)
  where
    either : (b : Bool) → (same_octets x (encoding y) ≡ true → is_among x taken ≡ b)
        → times x (member_encodings encoding (other_members encoding taken ys))
        ≡ (if is_among x taken then 0 else times x (member_encodings encoding ys))
        → times x (member_encodings encoding
        (cond b (other_members encoding taken ys) (Then y (other_members encoding taken ys))))
        ≡ (if is_among x taken then 0
        else (one_if (same_octets x (encoding y)) + times x (member_encodings encoding ys)))
    either true h later = later
        ∙ dropped_often (is_among x taken) (same_octets x (encoding y)) (times x (member_encodings encoding ys)) h
    either false h later = ap (λ n. one_if (same_octets x (encoding y)) + n) later
        ∙ kept_often (is_among x taken) (same_octets x (encoding y)) (times x (member_encodings encoding ys)) h

-- ---- members that are added

old_often : (a s g : Bool) → (s ≡ true → a ≡ true)
    → (if (s || a) then 0 else one_if g) ≡ (if a then 0 else one_if (s || g))
old_often true true g h = refl
old_often true false g h = refl
old_often false true g h = absurd (false≢true (h refl))
old_often false false g h = refl

fresh_often : (a s g : Bool) → (s ≡ true → a ≡ false)
    → one_if s + (if (s || a) then 0 else one_if g) ≡ (if a then 0 else one_if (s || g))
fresh_often true true g h = absurd (false≢true (sym (h refl)))
fresh_often true false g h = refl
fresh_often false true g h = refl
fresh_often false false true h = refl
fresh_often false false false h = refl

new_often : (encoding : TypedValue → List ℕ) (there : List (List ℕ)) (given : TypedValues) (x : List ℕ)
    → times x (member_encodings encoding (new_members encoding there given))
    ≡ (if is_among x there then 0 else one_if (is_among x (member_encodings encoding given)))
new_often encoding there Nothing x = nothing (is_among x there)
new_often encoding there (Then y ys) x =
    either (is_among (encoding y) there) (same_among x (encoding y) there)
    (new_often encoding (encoding y ∷ there) ys x)
  where
    either : (b : Bool) → (same_octets x (encoding y) ≡ true → is_among x there ≡ b)
        → times x (member_encodings encoding (new_members encoding (encoding y ∷ there) ys))
        ≡ (if is_among x (encoding y ∷ there) then 0 else one_if (is_among x (member_encodings encoding ys)))
        → times x (member_encodings encoding
        (cond b (new_members encoding (encoding y ∷ there) ys)
        (Then y (new_members encoding (encoding y ∷ there) ys))))
        ≡ (if is_among x there then 0
        else one_if (same_octets x (encoding y) || is_among x (member_encodings encoding ys)))
    either true h later = later
        ∙ old_often (is_among x there) (same_octets x (encoding y)) (is_among x (member_encodings encoding ys)) h
    either false h later = ap (λ n. one_if (same_octets x (encoding y)) + n) later
        ∙ fresh_often (is_among x there) (same_octets x (encoding y)) (is_among x (member_encodings encoding ys)) h

followed_often : (encoding : TypedValue → List ℕ) (xs ys : TypedValues) (x : List ℕ)
    → times x (member_encodings encoding (followed_by xs ys))
    ≡ times x (member_encodings encoding xs) + times x (member_encodings encoding ys)
followed_often encoding Nothing ys x = omega arith
followed_often encoding (Then z zs) ys x =
    let later = followed_often encoding zs ys x in
    omega arith

inserted_often : (encoding : TypedValue → List ℕ) (y : TypedValue) (ys : TypedValues) (x : List ℕ)
    → times x (member_encodings encoding (inserted_by encoding y ys))
    ≡ one_if (same_octets x (encoding y)) + times x (member_encodings encoding ys)
inserted_often encoding y Nothing x = refl
inserted_often encoding y (Then z zs) x =
    either (may_precede (encoding y) (encoding z)) (inserted_often encoding y zs x)
  where
    either : (b : Bool) → times x (member_encodings encoding (inserted_by encoding y zs))
        ≡ one_if (same_octets x (encoding y)) + times x (member_encodings encoding zs)
        → times x (member_encodings encoding (cond b (Then y (Then z zs)) (Then z (inserted_by encoding y zs))))
        ≡ one_if (same_octets x (encoding y)) + (one_if (same_octets x (encoding z))
        + times x (member_encodings encoding zs))
    either true later = refl
    either false later = omega arith

rising_often : (encoding : TypedValue → List ℕ) (xs : TypedValues) (x : List ℕ)
    → times x (member_encodings encoding (rising_by encoding xs)) ≡ times x (member_encodings encoding xs)
rising_often encoding Nothing x = refl
rising_often encoding (Then y ys) x =
    inserted_often encoding y (rising_by encoding ys) x
    ∙ ap (λ n. one_if (same_octets x (encoding y)) + n) (rising_often encoding ys x)

held_or_new : (a : Bool) (n m : ℕ) → (a ≡ false → n ≡ 0)
    → n + (if a then 0 else m) ≡ (if a then n else m)
held_or_new true n m h = omega arith
held_or_new false n m h = let l = h refl in omega arith

pub added_often_holds : AddedOften
added_often_holds = λ encoding held given x.
    let there = member_encodings encoding held in
    let more = new_members encoding there given in
    rising_often encoding (followed_by held more) x
    ∙ followed_often encoding held more x
    ∙ ap (λ n. times x there + n) (new_often encoding there given x)
    ∙ held_or_new (is_among x there) (times x there) (one_if (is_among x (member_encodings encoding given)))
    (none_often x there)

pub removed_often_holds : RemovedOften
removed_often_holds = λ encoding held given x. removed_often encoding (member_encodings encoding given) held x

-- ---- the rising order

encodings_mapped : (encoding : TypedValue → List ℕ) (xs : TypedValues)
    → map encoding (values_of xs) ≡ member_encodings encoding xs
encodings_mapped encoding Nothing = refl
encodings_mapped encoding (Then x xs) = ap (λ ys. encoding x ∷ ys) (encodings_mapped encoding xs)

pub added_rise_holds : AddedRise
added_rise_holds = λ encoding held given.
    let all = followed_by held (new_members encoding (member_encodings encoding held) given) in
    subst IsRising (encodings_mapped encoding (rising_by encoding all)) (rising_rises encoding all)

-- without the second one
second_left : (e f : List ℕ) (xs : List (List ℕ)) → may_precede e f ≡ true → IsRising (f ∷ xs) → IsRising (e ∷ xs)
second_left e f [] h r = tt
second_left e f (g ∷ gs) h r = (may_precede_through e f g h r.0, r.1)

front_kept : (encoding : TypedValue → List ℕ) (taken : List (List ℕ)) (e : List ℕ) (xs : TypedValues)
    → IsRising (e ∷ member_encodings encoding xs)
    → IsRising (e ∷ member_encodings encoding (other_members encoding taken xs))
front_kept encoding taken e Nothing r = tt
front_kept encoding taken e (Then x xs) r =
    either (is_among (encoding x) taken)
    (front_kept encoding taken e xs (second_left e (encoding x) (member_encodings encoding xs) r.0 r.1))
    (front_kept encoding taken (encoding x) xs r.1)
  where
    either : (b : Bool) → IsRising (e ∷ member_encodings encoding (other_members encoding taken xs))
        → IsRising (encoding x ∷ member_encodings encoding (other_members encoding taken xs))
        → IsRising (e ∷ member_encodings encoding
        (cond b (other_members encoding taken xs) (Then x (other_members encoding taken xs))))
    either true without with_it = without
    either false without with_it = (r.0, with_it)

behind_rises : (e : List ℕ) (xs : List (List ℕ)) → IsRising (e ∷ xs) → IsRising xs
behind_rises e [] r = tt
behind_rises e (x ∷ xs) r = r.1

removed_rises : (encoding : TypedValue → List ℕ) (taken : List (List ℕ)) (xs : TypedValues)
    → IsRising (member_encodings encoding xs) → IsRising (member_encodings encoding (other_members encoding taken xs))
removed_rises encoding taken Nothing r = tt
removed_rises encoding taken (Then x xs) r =
    either (is_among (encoding x) taken)
    (removed_rises encoding taken xs (behind_rises (encoding x) (member_encodings encoding xs) r))
    (front_kept encoding taken (encoding x) xs r)
  where
    either : (b : Bool) → IsRising (member_encodings encoding (other_members encoding taken xs))
        → IsRising (encoding x ∷ member_encodings encoding (other_members encoding taken xs))
        → IsRising (member_encodings encoding
        (cond b (other_members encoding taken xs) (Then x (other_members encoding taken xs))))
    either true without with_it = without
    either false without with_it = with_it

pub removed_rise_holds : RemovedRise
removed_rise_holds = λ encoding held given r. removed_rises encoding (member_encodings encoding given) held r

-- ---- members that fit

inserted_fit : (P : TypedValue → Type 0) (encoding : TypedValue → List ℕ) (x : TypedValue) (ys : TypedValues) → P x
    → AllFit P ys → AllFit P (inserted_by encoding x ys)
inserted_fit P encoding x Nothing p all = (p, tt)
inserted_fit P encoding x (Then y ys) p all =
    either (may_precede (encoding x) (encoding y)) (inserted_fit P encoding x ys p all.1)
  where
    either : (c : Bool) → AllFit P (inserted_by encoding x ys)
        → AllFit P (cond c (Then x (Then y ys)) (Then y (inserted_by encoding x ys)))
    either true later = (p, all)
    either false later = (all.0, later)

rising_fit : (P : TypedValue → Type 0) (encoding : TypedValue → List ℕ) (xs : TypedValues) → AllFit P xs
    → AllFit P (rising_by encoding xs)
rising_fit P encoding Nothing all = tt
rising_fit P encoding (Then x xs) all =
    inserted_fit P encoding x (rising_by encoding xs) all.0 (rising_fit P encoding xs all.1)

followed_fit : (P : TypedValue → Type 0) (xs ys : TypedValues) → AllFit P xs → AllFit P ys
    → AllFit P (followed_by xs ys)
followed_fit P Nothing ys a b = b
followed_fit P (Then x xs) ys a b = (a.0, followed_fit P xs ys a.1 b)

unless_fit : (P : TypedValue → Type 0) (b : Bool) (x : TypedValue) (others : TypedValues) → P x → AllFit P others
    → AllFit P (cond b others (Then x others))
unless_fit P true x others p all = all
unless_fit P false x others p all = (p, all)

new_fit : (P : TypedValue → Type 0) (encoding : TypedValue → List ℕ) (there : List (List ℕ)) (xs : TypedValues)
    → AllFit P xs → AllFit P (new_members encoding there xs)
new_fit P encoding there Nothing all = tt
new_fit P encoding there (Then x xs) all =
    unless_fit P (is_among (encoding x) there) x (new_members encoding (encoding x ∷ there) xs) all.0
    (new_fit P encoding (encoding x ∷ there) xs all.1)

others_fit : (P : TypedValue → Type 0) (encoding : TypedValue → List ℕ) (taken : List (List ℕ)) (xs : TypedValues)
    → AllFit P xs → AllFit P (other_members encoding taken xs)
others_fit P encoding taken Nothing all = tt
others_fit P encoding taken (Then x xs) all =
    unless_fit P (is_among (encoding x) taken) x (other_members encoding taken xs) all.0
    (others_fit P encoding taken xs all.1)

pub added_fit_holds : AddedFit
added_fit_holds = λ member held given h g.
    let encoding = der member in
    let there = member_encodings encoding held in
    rising_fit (Fits member) encoding (followed_by held (new_members encoding there given))
    (followed_fit (Fits member) held (new_members encoding there given) h
    (new_fit (Fits member) encoding there given g))

pub removed_fit_holds : RemovedFit
removed_fit_holds = λ member held given h.
    others_fit (Fits member) (der member) (member_encodings (der member) given) held h

-- ---- equal members

pub equal_encodings_hold : EqualEncodings
equal_encodings_hold = λ member value other one two. (
  λ e. one_value_written_holds member value other one two
      ((bytes_eq-Decides (der member value) (der member other)).0 e),
  λ same. (bytes_eq-Decides (der member value) (der member other)).1 (ap (der member) same),
)
