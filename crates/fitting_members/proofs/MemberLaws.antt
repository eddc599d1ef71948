-- Members that are added or removed one after the other.
use Rattle.std.proofs.Common.{◌≡◌, ◌&&◌, ◌||◌, ℕ, zero, suc, ◌<◌, Bool, true, false, cond, List, [], ◌∷◌, insert, length, remove}
use Rattle.std.proofs.Common.{refl, sym, ap, subst, ◌∙◌, arith}
use Rattle.std.specs.Prelude.{map}
use Rattle.std.proofs.lemmas.Bool.{false≢true}
use Rattle.std.proofs.lemmas.Slice.Eq.{bytes_eq-Decides}
use Rattle.term_values.proofs.RisingLaws.{may_precede_back, may_precede_both, may_precede_through}
use Rattle.term_values.specs.Decoding.{inserted_by, rising_by}
use Rattle.term_values.specs.Rearranged.{may_precede}
use Rattle.term_values.specs.SameValue.{same_octets}
use Rattle.term_values.specs.SetMembers.{added, followed_by, is_among, new_members, other_members, removed}
use Rattle.term_values.specs.Typed.{TypedValue, TypedValues, listed}
use Rattle.term_values.specs.Typed.TypedValues.{Nothing, Then}
use Rattle.term_values.specs.ValueContents.{member_encodings}
use Rattle.fitting_members.specs.MemberPlaces.{AreRising, IsPlace, has_at, with_one}
use Rattle.fitting_members.proofs.PlaceLaws.{Encoding, among_at, encodings_listed, inserted_at, tail_rises}

-- ---- two members with other encodings may be inserted in either order

both_in_front : (b c : Bool) (x y : TypedValue) (zs : TypedValues) → (b ≡ true → c ≡ true → ⊥)
    → (b ≡ false → c ≡ true)
    → cond b (Then x (Then y zs)) (Then y (Then x zs)) ≡ cond c (Then y (Then x zs)) (Then x (Then y zs))
both_in_front true true x y zs apart other = absurd (apart refl refl)
both_in_front true false x y zs apart other = refl
both_in_front false true x y zs apart other = refl
both_in_front false false x y zs apart other = absurd (false≢true (other refl))

comes_later : (x y z : List ℕ) → may_precede x z ≡ true → may_precede y z ≡ false → may_precede y x ≡ false
comes_later x y z h k = by (may_precede y x) refl
  where
    by : (b : Bool) → may_precede y x ≡ b → may_precede y x ≡ false
    by true e = absurd (false≢true (sym k ∙ may_precede_through y x z e h))
    by false e = e

one_in_front : (e : Encoding) (x y z : TypedValue) (zs : TypedValues) → may_precede (e x) (e z) ≡ true
    → may_precede (e y) (e z) ≡ false
    → inserted_by e x (Then z (inserted_by e y zs)) ≡ inserted_by e y (Then x (Then z zs))
one_in_front e x y z zs p q =
    let n = comes_later (e x) (e y) (e z) p q in
    (λ i. cond (p i) (Then x (Then z (inserted_by e y zs))) (Then z (inserted_by e x (inserted_by e y zs))))
    ∙ sym (λ i. cond (n i) (Then y (Then x (Then z zs)))
    (Then x (cond (q i) (Then y (Then z zs)) (Then z (inserted_by e y zs)))))

inserted_both : (e : Encoding) (b c : Bool) (x y z : TypedValue) (zs : TypedValues)
    → (may_precede (e x) (e y) ≡ true → may_precede (e y) (e x) ≡ true → ⊥)
    → may_precede (e x) (e z) ≡ b → may_precede (e y) (e z) ≡ c
    → inserted_by e x (inserted_by e y zs) ≡ inserted_by e y (inserted_by e x zs)
    → inserted_by e x (cond c (Then y (Then z zs)) (Then z (inserted_by e y zs)))
    ≡ inserted_by e y (cond b (Then x (Then z zs)) (Then z (inserted_by e x zs)))
inserted_both e true true x y z zs apart p q later =
    (λ i. cond (may_precede (e x) (e y)) (Then x (Then y (Then z zs)))
    (Then y (cond (p i) (Then x (Then z zs)) (Then z (inserted_by e x zs)))))
    ∙ both_in_front (may_precede (e x) (e y)) (may_precede (e y) (e x)) x y (Then z zs) apart
    (may_precede_back (e x) (e y))
    ∙ sym (λ i. cond (may_precede (e y) (e x)) (Then y (Then x (Then z zs)))
    (Then x (cond (q i) (Then y (Then z zs)) (Then z (inserted_by e y zs)))))
inserted_both e true false x y z zs apart p q later = one_in_front e x y z zs p q
inserted_both e false true x y z zs apart p q later = sym (one_in_front e y x z zs q p)
inserted_both e false false x y z zs apart p q later =
    (λ i. cond (p i) (Then x (Then z (inserted_by e y zs))) (Then z (later i)))
    ∙ sym (λ i. cond (q i) (Then y (Then z (inserted_by e x zs))) (Then z (inserted_by e y (inserted_by e x zs))))

swapped : (e : Encoding) (x y : TypedValue) (zs : TypedValues) → same_octets (e x) (e y) ≡ false
    → inserted_by e x (inserted_by e y zs) ≡ inserted_by e y (inserted_by e x zs)
swapped e x y zs other = by zs
  where
    apart : may_precede (e x) (e y) ≡ true → may_precede (e y) (e x) ≡ true → ⊥
    apart h k =
        absurd (false≢true (sym other ∙ (bytes_eq-Decides (e x) (e y)).1 (may_precede_both (e x) (e y) h k)))

    by : (ys : TypedValues) → inserted_by e x (inserted_by e y ys) ≡ inserted_by e y (inserted_by e x ys)
    by Nothing =
        both_in_front (may_precede (e x) (e y)) (may_precede (e y) (e x)) x y Nothing apart
        (may_precede_back (e x) (e y))
    by (Then z ys) =
        inserted_both e (may_precede (e x) (e z)) (may_precede (e y) (e z)) x y z ys apart refl refl (by ys)

-- ---- a member that is not among others

abbrev pub IsNew : Encoding → TypedValue → TypedValues → Type 0
IsNew e g vs = is_among (e g) (member_encodings e vs) ≡ false

first_other : (a b : Bool) → (a || b) ≡ false → a ≡ false
first_other true b h = absurd (false≢true (sym h))
first_other false b h = refl

rest_other : (a b : Bool) → (a || b) ≡ false → b ≡ false
rest_other true b h = absurd (false≢true (sym h))
rest_other false b h = h

turned : (x y : List ℕ) → same_octets x y ≡ false → same_octets y x ≡ false
turned x y other = by (same_octets y x) refl
  where
    by : (b : Bool) → same_octets y x ≡ b → same_octets y x ≡ false
    by true same =
        absurd (false≢true (sym other ∙ (bytes_eq-Decides x y).1 (sym ((bytes_eq-Decides y x).0 same))))
    by false apart = apart

later_in : (e : Encoding) (g : TypedValue) (vs ns : TypedValues) → IsNew e g vs
    → rising_by e (followed_by vs (Then g ns)) ≡ inserted_by e g (rising_by e (followed_by vs ns))
later_in e g Nothing ns new = refl
later_in e g (Then v vs) ns new =
    ap (inserted_by e v) (later_in e g vs ns (rest_other _ _ new))
    ∙ swapped e v g (rising_by e (followed_by vs ns)) (turned (e g) (e v) (first_other _ _ new))

inserted_in : (e : Encoding) (g : TypedValue) (vs ns : TypedValues) → IsNew e g vs
    → rising_by e (followed_by (inserted_by e g vs) ns) ≡ inserted_by e g (rising_by e (followed_by vs ns))
inserted_in e g Nothing ns new = refl
inserted_in e g (Then v vs) ns new =
    by (may_precede (e g) (e v)) refl (inserted_in e g vs ns (rest_other _ _ new))
  where
    by : (b : Bool) → may_precede (e g) (e v) ≡ b
        → rising_by e (followed_by (inserted_by e g vs) ns) ≡ inserted_by e g (rising_by e (followed_by vs ns))
        → rising_by e (followed_by (inserted_by e g (Then v vs)) ns)
        ≡ inserted_by e g (rising_by e (followed_by (Then v vs) ns))
    by true p again = ap (λ b. rising_by e (followed_by (cond b (Then g (Then v vs)) (Then v (inserted_by e g vs))) ns)) p
    by false p again =
        ap (λ b. rising_by e (followed_by (cond b (Then g (Then v vs)) (Then v (inserted_by e g vs))) ns)) p
        ∙ ap (inserted_by e v) again
        ∙ swapped e v g (rising_by e (followed_by vs ns)) (turned (e g) (e v) (first_other _ _ new))

new_same : (e : Encoding) (one other : List (List ℕ)) (gs : TypedValues)
    → ((q : List ℕ) → is_among q one ≡ is_among q other) → new_members e one gs ≡ new_members e other gs
new_same e one other Nothing same = refl
new_same e one other (Then g gs) same =
    (λ i. cond (same (e g) i) (new_members e (e g ∷ one) gs) (Then g (new_members e (e g ∷ one) gs)))
    ∙ ap (λ ms. cond (is_among (e g) other) ms (Then g ms))
    (new_same e (e g ∷ one) (e g ∷ other) gs (λ q. ap (λ b. same_octets q (e g) || b) (same q)))

or_swap : (a b c : Bool) → (a || (b || c)) ≡ (b || (a || c))
or_swap true true c = refl
or_swap true false c = refl
or_swap false b c = refl

among_inserted : (e : Encoding) (g : TypedValue) (vs : TypedValues) (q : List ℕ)
    → is_among q (member_encodings e (inserted_by e g vs)) ≡ (same_octets q (e g) || is_among q (member_encodings e vs))
among_inserted e g Nothing q = refl
among_inserted e g (Then v vs) q = by (may_precede (e g) (e v)) (among_inserted e g vs q)
  where
    by : (b : Bool)
        → is_among q (member_encodings e (inserted_by e g vs)) ≡ (same_octets q (e g) || is_among q (member_encodings e vs))
        → is_among q (member_encodings e (cond b (Then g (Then v vs)) (Then v (inserted_by e g vs))))
        ≡ (same_octets q (e g) || (same_octets q (e v) || is_among q (member_encodings e vs)))
    by true again = refl
    by false again =
        ap (λ b. same_octets q (e v) || b) again
        ∙ or_swap (same_octets q (e v)) (same_octets q (e g)) (is_among q (member_encodings e vs))

held_again : (e : Encoding) (g : TypedValue) (vs : TypedValues) → is_among (e g) (member_encodings e vs) ≡ true
    → (q : List ℕ) → is_among q (e g ∷ member_encodings e vs) ≡ is_among q (member_encodings e vs)
held_again e g vs there q = by (same_octets q (e g)) refl
  where
    by : (b : Bool) → same_octets q (e g) ≡ b
        → (same_octets q (e g) || is_among q (member_encodings e vs)) ≡ is_among q (member_encodings e vs)
    by true same =
        ap (λ b. b || is_among q (member_encodings e vs)) same
        ∙ sym (subst (λ x. is_among x (member_encodings e vs) ≡ true) (sym ((bytes_eq-Decides q (e g)).0 same)) there)
    by false other = ap (λ b. b || is_among q (member_encodings e vs)) other

add_step : (e : Encoding) (g : TypedValue) (vs gs : TypedValues) → added e vs (Then g gs) ≡ added e (with_one e g vs) gs
add_step e g vs gs = by (is_among (e g) (member_encodings e vs)) refl
  where
    there : List (List ℕ)
    there = member_encodings e vs

    by : (b : Bool) → is_among (e g) there ≡ b
        → rising_by e (followed_by vs (cond (is_among (e g) there) (new_members e (e g ∷ there) gs)
        (Then g (new_members e (e g ∷ there) gs))))
        ≡ added e (cond (is_among (e g) there) vs (inserted_by e g vs)) gs
    by true h =
        rw h (ap (λ ms. rising_by e (followed_by vs ms)) (new_same e (e g ∷ there) there gs (held_again e g vs h)))
    by false h =
        let ns = new_members e (e g ∷ there) gs in
        let same = new_same e (member_encodings e (inserted_by e g vs)) (e g ∷ there) gs (among_inserted e g vs) in
        rw h (later_in e g vs ns h ∙ sym (inserted_in e g vs ns h)
        ∙ ap (λ ms. rising_by e (followed_by (inserted_by e g vs) ms)) (sym same))

followed_by_none : (vs : TypedValues) → followed_by vs Nothing ≡ vs
followed_by_none Nothing = refl
followed_by_none (Then v vs) = ap (Then v) (followed_by_none vs)

pub rising_same : (e : Encoding) (vs : List TypedValue) → AreRising e vs → rising_by e (listed vs) ≡ listed vs
rising_same e [] r = refl
rising_same e (v ∷ vs) r =
    ap (inserted_by e v) (rising_same e vs (tail_rises e v vs r)) ∙ first vs r
  where
    first : (us : List TypedValue) → AreRising e (v ∷ us) → inserted_by e v (listed us) ≡ Then v (listed us)
    first [] rise = refl
    first (u ∷ us) rise = rw rise.0 refl

pub none_added : (e : Encoding) (vs : List TypedValue) → AreRising e vs → added e (listed vs) Nothing ≡ listed vs
none_added e vs r = ap (rising_by e) (followed_by_none (listed vs)) ∙ rising_same e vs r

-- one member, and the others behind it
pub added_further : (e : Encoding) (g : TypedValue) (vs ws gs : TypedValues) → ws ≡ with_one e g vs
    → added e vs (Then g gs) ≡ added e ws gs
added_further e g vs ws gs is = add_step e g vs gs ∙ ap (λ xs. added e xs gs) (sym is)

-- ---- members that are removed

other_more : (e : Encoding) (x : List ℕ) (taken : List (List ℕ)) (vs : TypedValues)
    → other_members e (x ∷ taken) vs ≡ other_members e taken (other_members e (x ∷ []) vs)
other_more e x taken Nothing = refl
other_more e x taken (Then v vs) = by (same_octets (e v) x) (other_more e x taken vs)
  where
    by : (b : Bool)
        → other_members e (x ∷ taken) vs ≡ other_members e taken (other_members e (x ∷ []) vs)
        → cond (b || is_among (e v) taken) (other_members e (x ∷ taken) vs) (Then v (other_members e (x ∷ taken) vs))
        ≡ other_members e taken (cond (b || false) (other_members e (x ∷ []) vs) (Then v (other_members e (x ∷ []) vs)))
    by true again = again
    by false again = ap (λ ms. cond (is_among (e v) taken) ms (Then v ms)) again

pub removed_further : (e : Encoding) (g : TypedValue) (vs ws : TypedValues) (gs : TypedValues)
    → ws ≡ removed e vs (Then g Nothing) → removed e vs (Then g gs) ≡ removed e ws gs
removed_further e g vs ws gs is =
    other_more e (e g) (member_encodings e gs) vs ∙ ap (other_members e (member_encodings e gs)) (sym is)

-- those that have the encoding, one after the other
pub one_less : (e : Encoding) (x : List ℕ) (items : List TypedValue) (at : ℕ) → has_at e x items at ≡ true
    → other_members e (x ∷ []) (listed (remove items at)) ≡ other_members e (x ∷ []) (listed items)
one_less e x [] at there = absurd (false≢true there)
one_less e x (v ∷ vs) zero there =
    let same : same_octets (e v) x ≡ true =
    (bytes_eq-Decides (e v) x).1 (sym ((bytes_eq-Decides x (e v)).0 there)) in
    rw same refl
one_less e x (v ∷ vs) (suc at) there =
    ap (λ ms. cond (same_octets (e v) x || false) ms (Then v ms)) (one_less e x vs at there)

pub none_less : (e : Encoding) (x : List ℕ) (vs : List TypedValue) → is_among x (map e vs) ≡ false
    → other_members e (x ∷ []) (listed vs) ≡ listed vs
none_less e x [] none = refl
none_less e x (v ∷ vs) none =
    rw (turned x (e v) (first_other _ _ none)) (ap (Then v) (none_less e x vs (rest_other _ _ none)))

pub there_within : (e : Encoding) (x : List ℕ) (items : List TypedValue) (at : ℕ) → has_at e x items at ≡ true
    → at < length items
there_within e x [] at there = absurd (false≢true there)
there_within e x (v ∷ vs) zero there = omega arith
there_within e x (v ∷ vs) (suc at) there = let rest = there_within e x vs at there in omega arith

-- ---- members that fit

pub and_swap : (a b c : Bool) → (a && (b && c)) ≡ (b && (a && c))
and_swap true b c = refl
and_swap false true c = refl
and_swap false false c = refl

-- ---- a member at its place

place_new : (e : Encoding) (g : TypedValue) (items : List TypedValue) (at : ℕ) → AreRising e items
    → IsPlace e (e g) items at
    → is_among (e g) (member_encodings e (listed items)) ≡ has_at e (e g) items at
place_new e g items at r place =
    ap (is_among (e g)) (encodings_listed e items) ∙ among_at e (e g) items at r place

pub there_one : (e : Encoding) (g : TypedValue) (items : List TypedValue) (at : ℕ) → AreRising e items
    → IsPlace e (e g) items at → has_at e (e g) items at ≡ true → listed items ≡ with_one e g (listed items)
there_one e g items at r place there = rw (place_new e g items at r place ∙ there) refl

pub placed_one : (e : Encoding) (g : TypedValue) (items : List TypedValue) (at : ℕ) → AreRising e items
    → IsPlace e (e g) items at → has_at e (e g) items at ≡ false
    → listed (insert items at g) ≡ with_one e g (listed items)
placed_one e g items at r place none =
    inserted_at e g items at place
    ∙ sym (ap (λ b. cond b (listed items) (inserted_by e g (listed items))) (place_new e g items at r place ∙ none))

inserted_rises : (e : Encoding) (g : TypedValue) (items : List TypedValue) (at : ℕ) → AreRising e items
    → IsPlace e (e g) items at → AreRising e (insert items at g)
inserted_rises e g [] zero r place = tt
inserted_rises e g [] (suc at) r place = absurd (omega (arith, place.within))
inserted_rises e g (v ∷ vs) zero r place = (place.behind.0, r)
inserted_rises e g (v ∷ vs) (suc at) r place =
    let rest : IsPlace e (e g) vs at = record {
      within = omega (arith, place.within);
      front = place.front.1;
      behind = place.behind;
    } in
    behind_first vs at r (may_precede_back (e g) (e v) place.front.0) rest
    (inserted_rises e g vs at (tail_rises e v vs r) rest)
  where
    behind_first : (us : List TypedValue) (k : ℕ) → AreRising e (v ∷ us) → may_precede (e v) (e g) ≡ true
        → IsPlace e (e g) us k → AreRising e (insert us k g) → AreRising e (v ∷ insert us k g)
    behind_first [] zero rise before at_us rest_rises = (before, tt)
    behind_first [] (suc k) rise before at_us rest_rises = absurd (omega (arith, at_us.within))
    behind_first (u ∷ us) zero rise before at_us rest_rises = (before, rest_rises)
    behind_first (u ∷ us) (suc k) rise before at_us rest_rises = (rise.0, rest_rises)

pub placed_rises : (e : Encoding) (g : TypedValue) (items : List TypedValue) (at : ℕ) → AreRising e items
    → IsPlace e (e g) items at → AreRising e (insert items at g)
placed_rises = inserted_rises

pub none_removed : (e : Encoding) (vs : TypedValues) → removed e vs Nothing ≡ vs
none_removed e Nothing = refl
none_removed e (Then v vs) = ap (Then v) (none_removed e vs)
