-- RunLaws: the tags of members that stand together (X.680, sections 25.6, 27.3 and 29.3).
use Rattle.std.proofs.Common.{◌≡◌, ◌||◌, ◌&&◌, ◌==◌, ◌+◌, ◌<◌, ℕ, List, [], ◌∷◌, Bool, true, false, refl, sym, ap, ◌∙◌}
use Rattle.std.proofs.Common.{get_or, length, take, cond}
use Rattle.std.proofs.lemmas.List.{take_more}
use Rattle.std.specs.BTreeMap.{is_at}
use Rattle.std.specs.BTreeSet.{BTreeSet, contains}
use Rattle.std.specs.Cmp.{unsigned_tied}
use Rattle.std.specs.Ordering.{is_eq, nat_cmp, ordering_then}
use Rattle.std.specs.declared.cmp.Ordering.{Ordering}
use Rattle.std.specs.declared.cmp.Ordering.TheVariants.{Less, Equal, Greater}
use Rattle.term_values.specs.Beginnings.{is_one_of}
use Rattle.term_values.specs.Tag.{is_same_tag}
use Rattle.term_values.specs.declared.tag.Tag.{Tag}
use Rattle.asn1_tags.specs.TagRuns.{has_key, key_cmp}
use Rattle.asn1_tags.proofs.TagLaws.{one_of_append}

-- ---- keys

eq_test : (a b : ℕ) → is_eq (nat_cmp a b) ≡ (a == b)
eq_test a b = unsigned_tied a b

eq_then : (x y : Ordering) → is_eq (ordering_then x y) ≡ (is_eq x && is_eq y)
eq_then Less y = refl
eq_then Equal y = refl
eq_then Greater y = refl

key_test : (x y : Tag) → is_eq (key_cmp (x.class, x.number) (y.class, y.number)) ≡ is_same_tag x y
key_test x y = eq_then (nat_cmp x.class y.class) (nat_cmp x.number y.number) ∙
    ap (λ z. z && is_eq (nat_cmp x.number y.number)) (eq_test x.class y.class) ∙
    ap (λ z. (x.class == y.class) && z) (eq_test x.number y.number)

or_cond : (test before : Bool) → cond test true before ≡ (before || test)
or_cond true true = refl
or_cond true false = refl
or_cond false true = refl
or_cond false false = refl

pub key_added : (before after : BTreeSet (ℕ × ℕ)) (tag other : Tag) →
    contains key_cmp after (other.class, other.number) ≡
    cond (is_at (key_cmp (tag.class, tag.number)) (other.class, other.number)) true
    (contains key_cmp before (other.class, other.number)) →
    has_key after other ≡ (has_key before other || is_same_tag tag other)
key_added before after tag other e = e ∙ or_cond (is_at (key_cmp (tag.class, tag.number)) (other.class, other.number))
    (has_key before other) ∙ ap (λ z. has_key before other || z) (key_test tag other)

or_assoc : (a b c : Bool) → ((a || b) || (c || false)) ≡ (a || (b || (c || false)))
or_assoc true b c = refl
or_assoc false b c = refl

or_false : (a : Bool) → (a || false) ≡ a
or_false true = refl
or_false false = refl

pub keys_step : (before now after : BTreeSet (ℕ × ℕ)) (tags : List Tag) (i : ℕ) (d other : Tag) → i < length tags →
    has_key now other ≡ (has_key before other || is_one_of (take i tags) other) →
    has_key after other ≡ (has_key now other || is_same_tag (get_or tags i d) other) →
    has_key after other ≡ (has_key before other || is_one_of (take (i + 1) tags) other)
keys_step before now after tags i d other within so_far more = let tag = get_or tags i d in more ∙
    ap (λ z. z || is_same_tag tag other) so_far ∙
    ap (λ z. (has_key before other || is_one_of (take i tags) other) || z) (sym (or_false (is_same_tag tag other))) ∙
    or_assoc (has_key before other) (is_one_of (take i tags) other) (is_same_tag tag other) ∙
    ap (λ z. has_key before other || z) (sym (one_of_append (take i tags) (tag ∷ []) other) ∙
    ap (λ (ts : List Tag). is_one_of ts other) (sym (take_more tags i d within)))
