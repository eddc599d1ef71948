-- TagLists: whether lists of tags have one in common (X.680, section 8.6).
use Rattle.std.proofs.Common.{◌≡◌, ◌⊎◌, ◌&&◌, ◌||◌, ◌==◌, List, [], ◌∷◌, ◌++◌, Bool, true, false, Option, None, Some}
use Rattle.std.proofs.Common.{refl, sym, ap, ◌∙◌, inl, inr, true≢false}
use Rattle.std.specs.Prelude.{not}
use Rattle.std.proofs.lemmas.Bool.{and_parts, eq-eqb, eqb-true}
use Rattle.term_values.specs.Beginnings.{either_tags, has_tag, is_one_of}
use Rattle.term_values.specs.Soundness.{are_apart, no_tag_of}
use Rattle.term_values.specs.Tag.{is_same_tag}
use Rattle.term_values.specs.declared.tag.Tag.{Tag}

pub and_both : (a b : Bool) → a ≡ true → b ≡ true → (a && b) ≡ true
and_both a b e f = ap (λ z. z && b) e ∙ f

pub or_second : (a b : Bool) → b ≡ true → (a || b) ≡ true
or_second true b e = refl
or_second false b e = e

-- ---- tags

tag_from : (x y : Tag) → x.class ≡ y.class → x.number ≡ y.number → x ≡ y
tag_from x y e f = λ i. record { class = e i; number = f i }

same_tags : (x y : Tag) → is_same_tag x y ≡ true → x ≡ y
same_tags x y e = let parts = and_parts (x.class == y.class) (x.number == y.number) e in
    tag_from x y (eqb-true x.class y.class parts.0) (eqb-true x.number y.number parts.1)

same_itself : (x : Tag) → is_same_tag x x ≡ true
same_itself x = ap (λ z. z && (x.number == x.number)) (eq-eqb x.class x.class refl) ∙ eq-eqb x.number x.number refl

-- a list of one tag
pub one_tag : (own tag : Tag) → is_one_of (own ∷ []) tag ≡ true → own ≡ tag
one_tag own tag e = by (is_same_tag own tag) refl e
  where
    by : (b : Bool) → is_same_tag own tag ≡ b → (b || false) ≡ true → own ≡ tag
    by true is h = same_tags own tag is
    by false is h = absurd (true≢false (sym h))

pub own_tag : (own : Tag) → is_one_of (own ∷ []) own ≡ true
own_tag own = ap (λ z. z || false) (same_itself own)

-- ---- the tags of either

of_append : (xs ys : List Tag) (tag : Tag) → is_one_of (xs ++ ys) tag ≡ true →
    (is_one_of xs tag ≡ true) ⊎ (is_one_of ys tag ≡ true)
of_append [] ys tag e = inr e
of_append (x ∷ xs) ys tag e = by (is_same_tag x tag) (λ h. of_append xs ys tag h) e
  where
    by : (b : Bool) →
        (is_one_of (xs ++ ys) tag ≡ true → (is_one_of xs tag ≡ true) ⊎ (is_one_of ys tag ≡ true)) →
        (b || is_one_of (xs ++ ys) tag) ≡ true → ((b || is_one_of xs tag) ≡ true) ⊎ (is_one_of ys tag ≡ true)
    by true rest h = inl refl
    by false rest h = rest h

in_append : (xs ys : List Tag) (tag : Tag) → is_one_of xs tag ≡ true → is_one_of (xs ++ ys) tag ≡ true
in_append [] ys tag e = absurd (true≢false (sym e))
in_append (x ∷ xs) ys tag e = by (is_same_tag x tag) (λ h. in_append xs ys tag h) e
  where
    by : (b : Bool) → (is_one_of xs tag ≡ true → is_one_of (xs ++ ys) tag ≡ true) → (b || is_one_of xs tag) ≡ true →
        (b || is_one_of (xs ++ ys) tag) ≡ true
    by true rest h = refl
    by false rest h = rest h

pub of_either : (x y : Option (List Tag)) (tag : Tag) → has_tag (either_tags x y) tag ≡ true →
    (has_tag x tag ≡ true) ⊎ (has_tag y tag ≡ true)
of_either None y tag e = inl refl
of_either (Some xs) None tag e = inr refl
of_either (Some xs) (Some ys) tag e = of_append xs ys tag e

pub in_either : (x y : Option (List Tag)) (tag : Tag) → has_tag x tag ≡ true → has_tag (either_tags x y) tag ≡ true
in_either None None tag e = refl
in_either None (Some ys) tag e = refl
in_either (Some xs) None tag e = refl
in_either (Some xs) (Some ys) tag e = in_append xs ys tag e

-- ---- lists that are apart

none_common : (xs ys : List Tag) → ((tag : Tag) → is_one_of xs tag ≡ true → is_one_of ys tag ≡ true → ⊥) →
    no_tag_of xs ys ≡ true
none_common [] ys none_of = refl
none_common (x ∷ xs) ys none_of = by (is_one_of ys x) refl
    (none_common xs ys (λ tag e f. none_of tag (or_second (is_same_tag x tag) (is_one_of xs tag) e) f))
  where
    by : (b : Bool) → is_one_of ys x ≡ b → no_tag_of xs ys ≡ true → (not b && no_tag_of xs ys) ≡ true
    by true is rest = absurd (none_of x (ap (λ z. z || is_one_of xs x) (same_itself x)) is)
    by false is rest = rest

-- some tag is among them
abbrev pub HasSome : Option (List Tag) → Type 0
HasSome tags = (tag : Tag) × (has_tag tags tag ≡ true)

-- where each has some, they are apart if they have none in common
pub apart_by : (x y : Option (List Tag)) → HasSome x → HasSome y →
    ((tag : Tag) → has_tag x tag ≡ true → has_tag y tag ≡ true → ⊥) → are_apart x y ≡ true
apart_by None None one other none_of = absurd (none_of other.0 refl refl)
apart_by None (Some ys) one other none_of = absurd (none_of other.0 refl other.1)
apart_by (Some xs) None one other none_of = absurd (none_of one.0 one.1 refl)
apart_by (Some xs) (Some ys) one other none_of = none_common xs ys none_of
