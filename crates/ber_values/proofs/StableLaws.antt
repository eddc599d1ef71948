-- A stable sort by encodings gives the order that insertions give: X.690, section 11.6.
use Rattle.std.proofs.Common.{◌≡◌, ◌≤◌, ◌<◌, ◌+◌, ℕ, zero, suc, Bool, true, false, cond, not, List, [], ◌∷◌, length}
use Rattle.std.proofs.Common.{get_or, nat_cmp, is_lt, is_gt, Ordering, Less, Equal, Greater, refl, sym, ap, ◌∙◌, subst}
use Rattle.std.proofs.Common.{⊎_elim, true≢false, arith, filter, IsSorted}
use Rattle.std.specs.Prelude.{◌&&◌}
use Rattle.std.specs.Cmp.Lexicographic.{slice_cmp}
use Rattle.std.specs.List.Sorted.{ties, IsStable}
use Rattle.std.proofs.lemmas.Bool.{cases_Bool}
use Rattle.std.proofs.lemmas.Cmp.{nat_list_cmp_total, tied_itself}
use Rattle.term_values.specs.Rearranged.{may_precede}
use Rattle.term_values.proofs.RisingLaws.{not_before, may_precede_itself, may_precede_back, may_precede_both}
use Rattle.term_values.proofs.RisingLaws.{may_precede_through}
use Rattle.ber_values.specs.MemberOrder.{beside, members_of}
use Rattle.ber_values.specs.declared.member_order.Member.{Member}
use Rattle.term_values.specs.Decoding.{inserted_by, rising_by}
use Rattle.term_values.specs.Typed.{TypedValue, TypedValues}
use Rattle.term_values.specs.Typed.TypedValues.{Nothing, Then}

abbrev by_octets : Member → Member → Ordering
by_octets a b = slice_cmp nat_cmp a.octets b.octets

-- the two have one encoding
abbrev tie : Member → Member → Bool
tie = ties (λ a b. is_lt (by_octets a b))

abbrev pre : Member → Member → Bool
pre a b = may_precede a.octets b.octets

-- ---- ties are equal encodings

both_true : (b c : Bool) → b && c ≡ true → (b ≡ true) × (c ≡ true)
both_true true c e = (refl, e)
both_true false c e = absurd (true≢false (sym e))

not_true : (b : Bool) → not b ≡ true → b ≡ false
not_true true e = absurd (true≢false (sym e))
not_true false e = refl

pre_from : (a b : Member) → is_lt (by_octets b a) ≡ false → pre a b ≡ true
pre_from a b = not_before (by_octets a b) (by_octets b a) (nat_list_cmp_total.antisymm a.octets b.octets)

same_octets_of_tie : (a b : Member) → tie a b ≡ true → a.octets ≡ b.octets
same_octets_of_tie a b e =
    let p = both_true (not (is_lt (by_octets a b))) (not (is_lt (by_octets b a))) e in
    may_precede_both a.octets b.octets (pre_from a b (not_true (is_lt (by_octets b a)) p.1))
    (pre_from b a (not_true (is_lt (by_octets a b)) p.0))

equal_is_tie : (r : Ordering) → r ≡ Equal → not (is_lt r) && not (is_lt r) ≡ true
equal_is_tie r e = ap (λ q. not (is_lt q) && not (is_lt q)) e

tie_itself : (a : Member) → tie a a ≡ true
tie_itself a = equal_is_tie (by_octets a a) (tied_itself nat_list_cmp_total a.octets)

tie_of_same : (a b : Member) → a.octets ≡ b.octets → tie a b ≡ true
tie_of_same a b e =
    subst (λ ys. not (is_lt (slice_cmp nat_cmp a.octets ys)) && not (is_lt (slice_cmp nat_cmp ys a.octets))
    ≡ true) e (tie_itself a)

-- ---- sorted lists, by each element and those behind it

abbrev Before : Member → List Member → Type 0
Before x [] = Unit {0}
Before x (y ∷ ys) = (pre x y ≡ true) × Before x ys

abbrev Sorted : List Member → Type 0
Sorted [] = Unit {0}
Sorted (x ∷ xs) = Before x xs × Sorted xs

before_through : (x y : Member) (ys : List Member) → pre x y ≡ true → Before y ys → Before x ys
before_through x y [] h b = tt
before_through x y (z ∷ zs) h b = (may_precede_through x.octets y.octets z.octets h b.0, before_through x y zs h b.1)

sorted_from : (xs : List Member) → ((k : ℕ) → suc k < length xs → (d : Member)
    → pre (get_or xs k d) (get_or xs (suc k) d) ≡ true) → Sorted xs
sorted_from [] h = tt
sorted_from (x ∷ []) h = (tt, tt)
sorted_from (x ∷ (y ∷ ys)) h =
    let rest = sorted_from (y ∷ ys) (λ k p d. h (suc k) (omega arith) d) in
    let first : pre x y ≡ true = h 0 (omega arith) x in
    ((first, before_through x y ys first rest.0), rest)

-- ---- insertions

abbrev ins : Member → List Member → List Member
ins x [] = x ∷ []
ins x (y ∷ ys) = cond (pre x y) (x ∷ (y ∷ ys)) (y ∷ ins x ys)

abbrev inserted_all : List Member → List Member
inserted_all [] = []
inserted_all (x ∷ xs) = ins x (inserted_all xs)

before_ins : (w x : Member) (ys : List Member) → pre w x ≡ true → Before w ys → Before w (ins x ys)
before_ins w x [] h b = (h, tt)
before_ins w x (y ∷ ys) h b = either (pre x y) (before_ins w x ys h b.1)
  where
    either : (c : Bool) → Before w (ins x ys) → Before w (cond c (x ∷ (y ∷ ys)) (y ∷ ins x ys))
    either true later = (h, b)
    either false later = (b.0, later)

sorted_ins : (x : Member) (ys : List Member) → Sorted ys → Sorted (ins x ys)
sorted_ins x [] s = (tt, tt)
sorted_ins x (y ∷ ys) s = either (pre x y) refl (sorted_ins x ys s.1)
  where
    either : (c : Bool) → pre x y ≡ c → Sorted (ins x ys) → Sorted (cond c (x ∷ (y ∷ ys)) (y ∷ ins x ys))
    either true e later = ((e, before_through x y ys e s.0), s)
    either false e later = (before_ins y x ys (may_precede_back x.octets y.octets e) s.0, later)

sorted_all : (xs : List Member) → Sorted (inserted_all xs)
sorted_all [] = tt
sorted_all (x ∷ xs) = sorted_ins x (inserted_all xs) (sorted_all xs)

-- an insertion goes before those of the same encoding
filter_swap : (b c : Bool) (x y : Member) (zs : List Member) → (b ≡ true → c ≡ true → ⊥)
    → cond c (y ∷ cond b (x ∷ zs) zs) (cond b (x ∷ zs) zs) ≡ cond b (x ∷ cond c (y ∷ zs) zs) (cond c (y ∷ zs) zs)
filter_swap true true x y zs never = absurd (never refl refl)
filter_swap true false x y zs never = refl
filter_swap false true x y zs never = refl
filter_swap false false x y zs never = refl

filter_ins : (w x : Member) (ys : List Member) → filter (tie w) (ins x ys) ≡ filter (tie w) (x ∷ ys)
filter_ins w x [] = refl
filter_ins w x (y ∷ ys) = either (pre x y) refl (filter_ins w x ys)
  where
    never : pre x y ≡ false → tie w x ≡ true → tie w y ≡ true → ⊥
    never e f g =
        let same : x.octets ≡ y.octets = sym (same_octets_of_tie w x f) ∙ same_octets_of_tie w y g in
        true≢false (sym (subst (λ zs. may_precede x.octets zs ≡ true) same (may_precede_itself x.octets)) ∙ e)

    either : (c : Bool) → pre x y ≡ c → filter (tie w) (ins x ys) ≡ filter (tie w) (x ∷ ys)
        → filter (tie w) (cond c (x ∷ (y ∷ ys)) (y ∷ ins x ys)) ≡ filter (tie w) (x ∷ (y ∷ ys))
    either true e later = refl
    either false e later =
        ap (λ zs. cond (tie w y) (y ∷ zs) zs) later
        ∙ filter_swap (tie w x) (tie w y) x y (filter (tie w) ys) (never e)

filter_all : (w : Member) (xs : List Member) → filter (tie w) (inserted_all xs) ≡ filter (tie w) xs
filter_all w [] = refl
filter_all w (x ∷ xs) = filter_ins w x (inserted_all xs) ∙ ap (λ zs. cond (tie w x) (x ∷ zs) zs) (filter_all w xs)

-- ---- sorted lists with the same ties are equal

abbrev head_or : Member → List Member → Member
head_or d [] = d
head_or d (x ∷ xs) = x

abbrev rest_of : List Member → List Member
rest_of [] = []
rest_of (x ∷ xs) = xs

empty_is_none : (x : Member) (xs : List Member) → x ∷ xs ≡ [] → ⊥
empty_is_none x xs e = absurd (cc)

-- what ties with an element of the list comes behind what is before the list
before_tie : (s z : Member) (zs gs : List Member) → Before z zs → filter (tie s) zs ≡ s ∷ gs → pre z s ≡ true
before_tie s z [] gs b e = absurd (empty_is_none s gs (sym e))
before_tie s z (y ∷ ys) gs b e = either (tie s y) refl e (λ g. before_tie s z ys gs b.1 g)
  where
    either : (c : Bool) → tie s y ≡ c → cond c (y ∷ filter (tie s) ys) (filter (tie s) ys) ≡ s ∷ gs
        → (filter (tie s) ys ≡ s ∷ gs → pre z s ≡ true) → pre z s ≡ true
    either true f g later = subst (λ os. may_precede z.octets os ≡ true) (sym (same_octets_of_tie s y f)) b.0
    either false f g later = later g

rests_agree : (c : Bool) (s : Member) (xs ys : List Member) → cond c (s ∷ xs) xs ≡ cond c (s ∷ ys) ys → xs ≡ ys
rests_agree true s xs ys e = ap rest_of e
rests_agree false s xs ys e = e

pub same_ties : (ss zs : List Member) → Sorted ss → Sorted zs → ((x : Member)
    → filter (tie x) ss ≡ filter (tie x) zs) → ss ≡ zs
same_ties [] [] a b h = refl
same_ties [] (z ∷ zs) a b h =
    absurd (empty_is_none z (filter (tie z) zs) (sym (λ i. cond (tie_itself z i) (z ∷ filter (tie z) zs) (filter
    (tie z) zs)) ∙ sym (h z)))
same_ties (s ∷ ss) [] a b h =
    absurd (empty_is_none s (filter (tie s) ss) (sym (λ i. cond (tie_itself s i) (s ∷ filter (tie s) ss) (filter
    (tie s) ss)) ∙ h s))
same_ties (s ∷ ss) (z ∷ zs) a b h = either (tie s z) refl (λ k. same_ties ss zs a.1 b.1 k)
  where
    -- what ties with s, in both lists
    of_s : s ∷ filter (tie s) ss ≡ cond (tie s z) (z ∷ filter (tie s) zs) (filter (tie s) zs)
    of_s = sym (λ i. cond (tie_itself s i) (s ∷ filter (tie s) ss) (filter (tie s) ss)) ∙ h s

    of_z : cond (tie z s) (s ∷ filter (tie z) ss) (filter (tie z) ss) ≡ z ∷ filter (tie z) zs
    of_z = h z ∙ (λ i. cond (tie_itself z i) (z ∷ filter (tie z) zs) (filter (tie z) zs))

    other_way : tie s z ≡ false → tie z s ≡ false
    other_way e = ⊎_elim
        (λ (t : tie z s ≡ true). absurd (true≢false (sym (tie_of_same s z (sym (same_octets_of_tie z s t))) ∙ e)))
        (λ (f : tie z s ≡ false). f)
        (cases_Bool (tie z s))

    either : (c : Bool) → tie s z ≡ c → (((x : Member) → filter (tie x) ss ≡ filter (tie x) zs) → ss ≡ zs)
        → s ∷ ss ≡ z ∷ zs
    either true e later =
        let both : s ∷ filter (tie s) ss ≡ z ∷ filter (tie s) zs =
        of_s ∙ (λ i. cond (e i) (z ∷ filter (tie s) zs) (filter (tie s) zs)) in
        let first : s ≡ z = ap (head_or s) both in
        let rest : ss ≡ zs = later (λ x. rests_agree (tie x s) s (filter (tie x) ss) (filter (tie x) zs)
        (h x ∙ (λ i. cond (tie x (sym first i)) (sym first i ∷ filter (tie x) zs) (filter (tie x) zs)))) in
        λ i. first i ∷ rest i
    either false e later =
        let in_zs : filter (tie s) zs ≡ s ∷ filter (tie s) ss =
        sym (of_s ∙ (λ i. cond (e i) (z ∷ filter (tie s) zs) (filter (tie s) zs))) in
        let in_ss : filter (tie z) ss ≡ z ∷ filter (tie z) zs =
        sym (λ i. cond (other_way e i) (s ∷ filter (tie z) ss) (filter (tie z) ss)) ∙ of_z in
        let same : s.octets ≡ z.octets = may_precede_both s.octets z.octets (before_tie z s ss (filter
        (tie z) zs) a.0 in_ss) (before_tie s z zs (filter (tie s) ss) b.0 in_zs) in
        absurd (true≢false (sym (tie_of_same s z same) ∙ e))

-- ---- the members of a stable sort are those of insertions

beside_ins : (encoding : TypedValue → List ℕ) (v : TypedValue) (xs : TypedValues)
    → ins (record { octets = encoding v; value = v }) (beside encoding xs) ≡ beside encoding (inserted_by encoding v xs)
beside_ins encoding v Nothing = refl
beside_ins encoding v (Then x xs) =
    either (may_precede (encoding v) (encoding x)) (beside_ins encoding v xs)
  where
    either : (c : Bool) → ins (record {
      octets = encoding v;
      value =
          v;
    }) (beside encoding xs) ≡ beside encoding (inserted_by encoding v xs)
        → cond c (record { octets = encoding v; value = v } ∷ (record {
          octets = encoding x;
          value =
              x;
        } ∷ beside encoding xs)) (record { octets = encoding x; value = x } ∷ ins (record {
          octets =
              encoding v;
          value = v;
        }) (beside encoding xs))
        ≡ beside encoding (cond c (Then v (Then x xs)) (Then x (inserted_by encoding v xs)))
    either true later = refl
    either false later = ap (λ ys. record { octets = encoding x; value = x } ∷ ys) later

inserted_beside : (encoding : TypedValue → List ℕ) (xs : TypedValues)
    → inserted_all (beside encoding xs) ≡ beside encoding (rising_by encoding xs)
inserted_beside encoding Nothing = refl
inserted_beside encoding (Then x xs) =
    ap (ins (record { octets = encoding x; value = x })) (inserted_beside encoding xs)
    ∙ beside_ins encoding x (rising_by encoding xs)

members_beside : (encoding : TypedValue → List ℕ) (xs : TypedValues) → members_of (beside encoding xs) ≡ xs
members_beside encoding Nothing = refl
members_beside encoding (Then x xs) = ap (Then x) (members_beside encoding xs)

-- what a stable sort makes of members beside their encodings
pub stable_is_rising : (encoding : TypedValue → List ℕ) (xs : TypedValues) (ks ss : List Member)
    → ks ≡ beside encoding xs
    → IsSorted by_octets ss → IsStable by_octets ks ss → members_of ss ≡ rising_by encoding xs
stable_is_rising encoding xs ks ss e up stable =
    let sorted : Sorted ss = sorted_from ss (λ k p d. pre_from (get_or ss k d) (get_or ss (suc k) d) (up_at k p d)) in
    let same : ss ≡ inserted_all ks = same_ties ss (inserted_all ks) sorted (sorted_all ks) (λ x. stable x
    ∙ sym (filter_all x ks)) in
    ap members_of (same ∙ ap inserted_all e ∙ inserted_beside encoding xs)
    ∙ members_beside encoding (rising_by encoding xs)
  where
    up_at : (k : ℕ) → suc k < length ss → (d : Member) → is_lt (by_octets (get_or ss (suc k) d) (get_or ss k d)) ≡ false
    up_at k p d = subst (λ n. is_lt (by_octets (get_or ss n d) (get_or ss k d))
        ≡ false) (omega arith) (up k d (omega arith) (omega arith))
