-- Which tags a value begins with, and that tags tell syntaxes apart: X.680, sections 8.6, 24.5, 26.3 and 28.3.
use Rattle.std.proofs.Common.{◌≡◌, Bool, true, false, Option, Some, None, refl, sym, subst, ℕ, ◌&&◌, ◌||◌, not, List}
use Rattle.std.proofs.Common.{[], ◌∷◌, ◌++◌}
use Rattle.std.proofs.lemmas.Bool.{and_parts, or_left, or_right, or_from, true≢false}
use Rattle.term_values.specs.Beginnings.{first_tags, either_tags, is_one_of, has_tag}
use Rattle.term_values.specs.Soundness.{no_tag_of, are_apart, is_apart_from_all, is_apart_from_next}
use Rattle.term_values.specs.Syntaxes.{TypeSyntax, TypeParts}
use Rattle.term_values.specs.Tag.{is_same_tag}
use Rattle.term_values.specs.declared.tag.Tag.{Tag}
use Rattle.typed_laws.proofs.Choosing.{same_tag, same_itself}

-- the tag is the only one of a list
pub only_tag : (x t : Tag) → t ≡ x → is_one_of (x ∷ []) t ≡ true
only_tag x t e = subst (λ y. is_one_of (x ∷ []) y ≡ true) (sym e) (or_left (is_same_tag x x) false (same_itself x))

front_has : (xs ys : List Tag) (t : Tag) → is_one_of xs t ≡ true → is_one_of (xs ++ ys) t ≡ true
front_has [] ys t e = absurd (cc)
front_has (x ∷ xs) ys t e = either (is_same_tag x t) e (front_has xs ys t)
  where
    either : (b : Bool) → (b || is_one_of xs t) ≡ true → (is_one_of xs t ≡ true → is_one_of (xs ++ ys) t ≡ true)
        → (b || is_one_of (xs ++ ys) t) ≡ true
    either true e later = refl
    either false e later = later e

back_has : (xs ys : List Tag) (t : Tag) → is_one_of ys t ≡ true → is_one_of (xs ++ ys) t ≡ true
back_has [] ys t e = e
back_has (x ∷ xs) ys t e = or_right (is_same_tag x t) (is_one_of (xs ++ ys) t) (back_has xs ys t e)

pub left_has : (a b : Option (List Tag)) (t : Tag) → has_tag a t ≡ true → has_tag (either_tags a b) t ≡ true
left_has (Some xs) (Some ys) t e = front_has xs ys t e
left_has (Some xs) None t e = refl
left_has None (Some ys) t e = refl
left_has None None t e = refl

pub right_has : (a b : Option (List Tag)) (t : Tag) → has_tag b t ≡ true → has_tag (either_tags a b) t ≡ true
right_has (Some xs) (Some ys) t e = back_has xs ys t e
right_has (Some xs) None t e = refl
right_has None (Some ys) t e = refl
right_has None None t e = refl

-- ---- what begins the one doesn't begin the other

not_both : (b c : Bool) → not b ≡ true → (c ≡ true → b ≡ true) → c ≡ false
not_both true c e h = absurd (true≢false (sym e))
not_both false true e h = sym (h refl)
not_both false false e h = refl

none_of : (xs ys : List Tag) (t : Tag) → no_tag_of xs ys ≡ true → is_one_of ys t ≡ true → is_one_of xs t ≡ false
none_of [] ys t e h = refl
none_of (x ∷ xs) ys t e h =
    let p = and_parts (not (is_one_of ys x)) (no_tag_of xs ys) e in
    or_from (is_same_tag x t) (is_one_of xs t)
    (not_both (is_one_of ys x) (is_same_tag x t) p.0
    (λ s. subst (λ (y : Tag). is_one_of ys y ≡ true) (sym (same_tag x t s)) h))
    (none_of xs ys t p.1 h)

pub apart : (a b : Option (List Tag)) (t : Tag) → are_apart a b ≡ true → has_tag b t ≡ true → has_tag a t ≡ false
apart (Some xs) (Some ys) t e h = none_of xs ys t e h
apart (Some xs) None t e h = absurd (true≢false (sym e))
apart None (Some ys) t e h = absurd (true≢false (sym e))
apart None None t e h = absurd (true≢false (sym e))

-- apart from the first of some components, and from the others
pub apart_all : (tags : Option (List Tag)) (name : List ℕ) (syntax : TypeSyntax) (rest : TypeParts)
    → (are_apart tags (first_tags syntax) && is_apart_from_all tags rest) ≡ true
    → (are_apart tags (first_tags syntax) ≡ true) × (is_apart_from_all tags rest ≡ true)
apart_all tags name syntax rest e = and_parts (are_apart tags (first_tags syntax)) (is_apart_from_all tags rest) e

or_right_of : (b c : Bool) → (not b || c) ≡ true → b ≡ true → c ≡ true
or_right_of true c e h = e
or_right_of false c e h = absurd (true≢false (sym h))

-- where a component is left out, it may be absent, so what is apart from it is apart from the next one too
pub apart_next : (tags : Option (List Tag)) (syntax : TypeSyntax) (absent : Bool) (rest : TypeParts)
    → (are_apart tags (first_tags syntax) && (not absent || is_apart_from_next tags rest)) ≡ true
    → absent ≡ true → is_apart_from_next tags rest ≡ true
apart_next tags syntax absent rest e h =
    or_right_of absent (is_apart_from_next tags rest) (and_parts (are_apart tags (first_tags syntax))
    (not absent || is_apart_from_next tags rest) e).1 h
