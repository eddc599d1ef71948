-- TagLaws: sets of tags grow (X.680, sections 8.4, 25.6, 27.3, 29.3 and 31).
use Rattle.std.proofs.Common.{◌≡◌, ◌⊎◌, ◌||◌, List, [], ◌∷◌, ◌++◌, Bool, true, false, refl, sym, ap, ◌∙◌, inl, inr}
use Rattle.std.proofs.Common.{◌&&◌, ◌==◌, ◌+◌, ◌<◌, ℕ, get_or, length, map, take}
use Rattle.asn1_names.proofs.NumberLaws.{map_more}
use Rattle.std.proofs.lemmas.Bool.{and_parts, eq-eqb, eqb-true}
use Rattle.std.proofs.Common.{Option, Some, subst}
use Rattle.term_values.specs.Beginnings.{first_tags, is_one_of, has_tag as one_has}
use Rattle.term_values.specs.Syntaxes.{TypeSyntax}
use Rattle.term_values.specs.Tag.{context, is_same_tag}
use Rattle.term_values.specs.declared.tag.Tag.{Tag}
use Rattle.asn1_tags.specs.declared.tag_sets.TagSet.{TagSet}
use Rattle.asn1_tags.specs.GatheredTags.{GainsTags, has_tag, word_begins}

-- ---- tests

or_true : (a : Bool) → (a || true) ≡ true
or_true true = refl
or_true false = refl

or_false : (a : Bool) → (a || false) ≡ a
or_false true = refl
or_false false = refl

or_assoc : (a b c : Bool) → (a || (b || c)) ≡ ((a || b) || c)
or_assoc true b c = refl
or_assoc false b c = refl

or_pairs : (a b c d : Bool) → ((a || c) || (b || d)) ≡ ((a || b) || (c || d))
or_pairs true b c d = refl
or_pairs false true true d = refl
or_pairs false false true d = refl
or_pairs false true false d = refl
or_pairs false false false d = refl

pub or_cases : (a b : Bool) → (a || b) ≡ true → (a ≡ true) ⊎ (b ≡ true)
or_cases true b e = inl refl
or_cases false b e = inr e

pub or_first : (a b : Bool) → a ≡ true → (a || b) ≡ true
or_first a b e = ap (λ x. x || b) e

pub or_second : (a b : Bool) → b ≡ true → (a || b) ≡ true
or_second a b e = ap (λ x. a || x) e ∙ or_true a

-- ---- tags

tag_from : (x y : Tag) → x.class ≡ y.class → x.number ≡ y.number → x ≡ y
tag_from x y e f = λ i. record { class = e i; number = f i }

pub same_tags : (x y : Tag) → is_same_tag x y ≡ true → x ≡ y
same_tags x y e = let parts = and_parts (x.class == y.class) (x.number == y.number) e in
    tag_from x y (eqb-true x.class y.class parts.0) (eqb-true x.number y.number parts.1)

pub same_itself : (x : Tag) → is_same_tag x x ≡ true
same_itself x = ap (λ z. z && (x.number == x.number)) (eq-eqb x.class x.class refl) ∙ eq-eqb x.number x.number refl

-- ---- lists of tags

pub one_of_append : (xs ys : List Tag) (tag : Tag) → is_one_of (xs ++ ys) tag ≡ (is_one_of xs tag || is_one_of ys tag)
one_of_append [] ys tag = refl
one_of_append (x ∷ xs) ys tag = ap (λ z. is_same_tag x tag || z) (one_of_append xs ys tag) ∙
    or_assoc (is_same_tag x tag) (is_one_of xs tag) (is_one_of ys tag)

pub gains_nothing : (set : TagSet) (test : Tag → Bool) → ((tag : Tag) → test tag ≡ false) → GainsTags set set test
gains_nothing set test fails = λ tag. sym (ap (λ z. has_tag set tag || z) (fails tag) ∙ or_false (has_tag set tag))

pub gains_list : (before after : TagSet) (any : Bool) (tags : List Tag) → after.any ≡ (before.any || any) →
    after.tags.items ≡ before.tags.items ++ tags → GainsTags before after (λ tag. any || is_one_of tags tag)
gains_list before after any tags e f = λ tag.
    ap (λ z. z || is_one_of after.tags.items tag) e ∙
    ap (λ z. (before.any || any) || is_one_of z tag) f ∙
    ap (λ z. (before.any || any) || z) (one_of_append before.tags.items tags tag) ∙
    or_pairs before.any (is_one_of before.tags.items tag) any (is_one_of tags tag)

pub gains_tag : (before after : TagSet) (tag : Tag) → after.any ≡ before.any →
    after.tags.items ≡ before.tags.items ++ tag ∷ [] → GainsTags before after (is_same_tag tag)
gains_tag before after own e f = λ tag.
    gains_list before after false (own ∷ []) (e ∙ sym (or_false before.any)) f tag ∙
    ap (λ z. has_tag before tag || z) (or_false (is_same_tag own tag))

-- two steps
pub gains_both : (first second third : TagSet) (one other : Tag → Bool) → GainsTags first second one →
    GainsTags second third other → GainsTags first third (λ tag. one tag || other tag)
gains_both first second third one other e f = λ tag. f tag ∙ ap (λ z. z || other tag) (e tag) ∙
    sym (or_assoc (has_tag first tag) (one tag) (other tag))

pub context_step : (before now after : TagSet) (numbers : List ℕ) (i number : ℕ) → i < length numbers →
    number ≡ get_or numbers i number → GainsTags before now (is_one_of (map context (take i numbers))) →
    GainsTags now after (is_same_tag (context number)) →
    GainsTags before after (is_one_of (map context (take (i + 1) numbers)))
context_step before now after numbers i number within is e f = λ tag.
    gains_both before now after (is_one_of (map context (take i numbers))) (is_same_tag (context number)) e f tag ∙
    ap (λ z. has_tag before tag || z)
    (ap (λ z. is_one_of (map context (take i numbers)) tag || z) (sym (or_false (is_same_tag (context number) tag))) ∙
    sym (one_of_append (map context (take i numbers)) (context number ∷ []) tag) ∙
    ap (λ tags. is_one_of tags tag) (sym (map_more context numbers i number within is)))

-- tests that say the same
pub same_test : (P : (Tag → Bool) → Type 0) (f g : Tag → Bool) → ((tag : Tag) → f tag ≡ g tag) → P f → P g
same_test P f g same fact = subst P (λ i. λ tag. same tag i) fact

pub word_test : (found : Option TypeSyntax) (syntax : TypeSyntax) (own tag : Tag) → first_tags syntax ≡ Some (own ∷
    []) →
    Some syntax ≡ found → is_same_tag own tag ≡ word_begins found tag
word_test found syntax own tag e f = sym (or_false (is_same_tag own tag)) ∙ ap (λ tags. one_has tags tag) (sym e) ∙
    ap (λ x. word_begins x tag) f
