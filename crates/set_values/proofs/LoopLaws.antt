-- Members and their encodings, one more or one less.
use Rattle.std.proofs.Common.{◌≡◌, ◌||◌, ℕ, List, [], ◌∷◌, ◌++◌, Bool, true, false, cond, refl, sym, ap, ◌∙◌}
use Rattle.std.specs.BTreeSet.{BTreeSet, contains}
use Rattle.std.specs.Cmp.Lexicographic.{slice_cmp}
use Rattle.std.specs.Ordering.{is_eq, nat_cmp}
use Rattle.std.proofs.lemmas.Cmp.{nat_list_eq_equiv}
use Rattle.std.proofs.lemmas.Map.Text.{is_eq-slice_cmp}
use Rattle.ber_values.specs.Left.{values_before}
use Rattle.term_values.specs.SameValue.{same_octets}
use Rattle.term_values.specs.Typed.{TypedValue, TypedValues, listed}
use Rattle.term_values.specs.Typed.TypedValues.{Then}
use Rattle.set_values.specs.EncodingSets.{holds, HasExactly, Grows, pushed_unless}
use Rattle.term_values.specs.SetMembers.{is_among, new_members, other_members, followed_by}

-- ---- sets of encodings

same_by_order : (key q : List ℕ) → is_eq (slice_cmp nat_cmp key q) ≡ same_octets q key
same_by_order key q = is_eq-slice_cmp key q ∙ nat_list_eq_equiv.symm key q

either_is : (same old : Bool) → cond same true old ≡ (same || old)
either_is true old = refl
either_is false old = refl

-- what `insert` says of each encoding
pub insert_grows : (before after : BTreeSet (List ℕ)) (key x : List ℕ) → key ≡ x
    → ((q : List ℕ) → contains (slice_cmp nat_cmp) after q ≡ cond (is_eq (slice_cmp nat_cmp key q)) true
    (contains (slice_cmp nat_cmp) before q)) → Grows before after x
insert_grows before after key x same updates =
    λ q. updates q ∙ either_is (is_eq (slice_cmp nat_cmp key q)) (holds before q)
    ∙ ap (λ b. b || holds before q) (same_by_order key q ∙ ap (λ k. same_octets q k) same)

-- ---- members behind others

pub followed_listed : (xs : List TypedValue) (rest : TypedValues)
    → followed_by (listed xs) rest ≡ values_before xs rest
followed_listed [] rest = refl
followed_listed (x ∷ xs) rest = ap (Then x) (followed_listed xs rest)

values_pushed : (xs : List TypedValue) (x : TypedValue) (rest : TypedValues)
    → values_before (xs ++ x ∷ []) rest ≡ values_before xs (Then x rest)
values_pushed [] x rest = refl
values_pushed (y ∷ ys) x rest = ap (Then y) (values_pushed ys x rest)

-- a member that is kept unless a test holds
kept_unless : (b : Bool) (items : List TypedValue) (x : TypedValue) (rest : TypedValues)
    → values_before items (cond b rest (Then x rest)) ≡ values_before (pushed_unless b items x) rest
kept_unless true items x rest = refl
kept_unless false items x rest = sym (values_pushed items x rest)

-- one of the given members
pub new_step : (encoding : TypedValue → List ℕ) (there : List (List ℕ)) (set : BTreeSet (List ℕ))
    (items pushed : List TypedValue) (x : TypedValue) (left rest : List TypedValue) → left ≡ x ∷ rest
    → HasExactly set there → pushed ≡ pushed_unless (holds set (encoding x)) items x
    → values_before items (new_members encoding there (listed left))
    ≡ values_before pushed (new_members encoding (encoding x ∷ there) (listed rest))
new_step encoding there set items pushed x left rest e has is =
    ap (λ xs. values_before items (new_members encoding there (listed xs))) e
    ∙ kept_unless (is_among (encoding x) there) items x (new_members encoding (encoding x ∷ there) (listed rest))
    ∙ ap (λ b. values_before (pushed_unless b items x) (new_members encoding (encoding x ∷ there) (listed rest)))
    (sym (has (encoding x)))
    ∙ ap (λ xs. values_before xs (new_members encoding (encoding x ∷ there) (listed rest))) (sym is)

pub has_more : (before after : BTreeSet (List ℕ)) (there : List (List ℕ)) (x : List ℕ) → HasExactly before there
    → Grows before after x → HasExactly after (x ∷ there)
has_more before after there x has grows = λ q. grows q ∙ ap (λ b. same_octets q x || b) (has q)

-- one of the held members
pub other_step : (encoding : TypedValue → List ℕ) (taken : List (List ℕ)) (set : BTreeSet (List ℕ))
    (items pushed : List TypedValue) (x : TypedValue) (left rest : List TypedValue) → left ≡ x ∷ rest
    → HasExactly set taken → pushed ≡ pushed_unless (holds set (encoding x)) items x
    → values_before items (other_members encoding taken (listed left))
    ≡ values_before pushed (other_members encoding taken (listed rest))
other_step encoding taken set items pushed x left rest e has is =
    ap (λ xs. values_before items (other_members encoding taken (listed xs))) e
    ∙ kept_unless (is_among (encoding x) taken) items x (other_members encoding taken (listed rest))
    ∙ ap (λ b. values_before (pushed_unless b items x) (other_members encoding taken (listed rest)))
    (sym (has (encoding x)))
    ∙ ap (λ xs. values_before xs (other_members encoding taken (listed rest))) (sym is)
