-- Whether members fit, and how many octets they take, with one more or one less.
use Rattle.std.proofs.Common.{◌≡◌, ◌&&◌, ℕ, zero, suc, ◌+◌, ◌-◌, ◌<◌, ◌≤◌, Bool, true, false, List, [], ◌∷◌, ◌++◌}
use Rattle.std.proofs.Common.{get_or, insert, length, length-append, map, remove, refl, sym, ap, ◌∙◌, arith}
use Rattle.std.proofs.lemmas.Bool.{false≢true}
use Rattle.std.proofs.lemmas.Slice.Eq.{bytes_eq-Decides}
use Rattle.std.specs.List.{list_all}
use Rattle.std.specs.Option.{option_map_or}
use Rattle.std.specs.Prelude.{Err, IfOk, Ok, Result, slice_get}
use Rattle.std.specs.declared.alloc.AllocError.{AllocError}
use Rattle.term_values.proofs.RisingLaws.{may_precede_through}
use Rattle.term_values.specs.Bounded.{allowed_size}
use Rattle.term_values.specs.FitTest.{all_fit, rise_from, set_fits, value_fits}
use Rattle.term_values.specs.Fits.{count}
use Rattle.term_values.specs.Lengths.{counted}
use Rattle.term_values.specs.Rearranged.{joined, may_precede}
use Rattle.term_values.specs.Syntaxes.{Bounds, TypeSyntax}
use Rattle.term_values.specs.Syntaxes.TypeSyntax.{SequenceOf, SetOf, Tagged}
use Rattle.term_values.specs.Typed.{TypedValue, TypedValues, listed}
use Rattle.term_values.specs.Typed.TypedValue.{Many}
use Rattle.term_values.specs.ValueContents.{member_encodings}
use Rattle.term_values.specs.Written.{der}
use Rattle.ber_values.proofs.DecodingLaws.{count_listed}
use Rattle.fitting_members.specs.Changing.{IsAdding, IsRemoving, are_fit, length_of}
use Rattle.fitting_members.specs.MemberPlaces.{AreRising, has_at, may_follow, may_lead}
use Rattle.fitting_members.specs.MemberTests.{all_members_fit, all_numbers_fit, members_fit, number_fits}
use Rattle.fitting_members.specs.TakingBack.{with_all, with_at, without_all}
use Rattle.fitting_members.specs.declared.adding.Additions.{Additions}
use Rattle.fitting_members.specs.declared.member_change.Removal.{Removal}
use Rattle.fitting_members.specs.declared.removing.Removals.{Removals}
use Rattle.fitting_members.proofs.FitLaws.{all_rise, both_true, fit_of, none_first, rise_all, set_told}
use Rattle.fitting_members.proofs.MemberLaws.{and_swap, there_within}
use Rattle.fitting_members.proofs.PlaceLaws.{Encoding, encodings_listed, without_rises}
use Rattle.fitting_members.proofs.UndoLaws.{back_in, back_out, last_in, last_out}

-- ---- tests in another order

pub pairs_swapped : (a b c d : Bool) → ((a && b) && (c && d)) ≡ ((a && c) && (b && d))
pairs_swapped true b c d = and_swap b c d
pairs_swapped false b c d = refl

pub both_hold : (a b : Bool) → a ≡ true → b ≡ true → (a && b) ≡ true
both_hold a b h k = (λ i. h i && b) ∙ k

-- ---- a list of members against a type

pub many_told : (type : TypeSyntax) (members : TypedValues)
    → value_fits type (Many members) ≡ (number_fits type (count members) && members_fit type members)
many_told (SequenceOf member sizes) members = refl
many_told (SetOf member sizes) members =
    by (allowed_size sizes (count members)) (all_fit (value_fits member) members)
  where
    by : (a b : Bool) → set_fits (der member) (a && b) (Many members)
        ≡ (a && (b && rise_from [] (member_encodings (der member) members)))
    by true true = refl
    by true false = refl
    by false b = refl
many_told (Tagged tag explicit of) members = many_told of members
many_told _ members = refl

pub all_told : (types : List TypeSyntax) (members : TypedValues)
    → list_all (λ type. value_fits type (Many members)) types
    ≡ (all_numbers_fit types (count members) && all_members_fit types members)
all_told [] members = refl
all_told (type ∷ types) members =
    (λ i. many_told type members i && all_told types members i)
    ∙ pairs_swapped (number_fits type (count members)) (members_fit type members)
    (all_numbers_fit types (count members)) (all_members_fit types members)

-- ---- a member more

pub inserted_fit_all : (fits : TypedValue → Bool) (v : TypedValue) (items : List TypedValue) (at : ℕ) → at ≤ length items
    → all_fit fits (listed (insert items at v)) ≡ (fits v && all_fit fits (listed items))
inserted_fit_all fits v [] zero h = refl
inserted_fit_all fits v [] (suc at) h = absurd (omega arith)
inserted_fit_all fits v (w ∷ ws) zero h = refl
inserted_fit_all fits v (w ∷ ws) (suc at) h =
    ap (λ b. fits w && b) (inserted_fit_all fits v ws at (omega arith))
    ∙ and_swap (fits w) (fits v) (all_fit fits (listed ws))

-- an encoding may stand behind that in front of a place, where this one stands in front of all
abbrev may_stand : Encoding → List ℕ → List ℕ → List TypedValue → ℕ → Bool
may_stand e x y items zero = may_precede x y
may_stand e x y items (suc at) = option_map_or (λ value. may_precede (e value) y) (slice_get items at) true

one_further : (e : Encoding) (x y : List ℕ) (w : TypedValue) (ws : List TypedValue) (at : ℕ)
    → may_stand e (e w) y ws at ≡ may_stand e x y (w ∷ ws) (suc at)
one_further e x y w ws zero = refl
one_further e x y w ws (suc at) = refl

true_behind : (b : Bool) → (b && true) ≡ ((b && true) && true)
true_behind true = refl
true_behind false = refl

through : (a b c d : Bool) → (a ≡ true → b ≡ true → c ≡ true) → (a && (b && d)) ≡ ((a && b) && (c && d))
through true true c d h = sym (ap (λ z. z && d) (h refl refl))
through true false c d h = refl
through false b c d h = refl

inserted_rise : (e : Encoding) (x : List ℕ) (v : TypedValue) (items : List TypedValue) (at : ℕ) → at ≤ length items
    → rise_from x (member_encodings e (listed (insert items at v)))
    ≡ ((may_stand e x (e v) items at && may_lead e (e v) items at) && rise_from x (member_encodings e (listed items)))
inserted_rise e x v [] zero h = true_behind (may_precede x (e v))
inserted_rise e x v [] (suc at) h = absurd (omega arith)
inserted_rise e x v (w ∷ ws) zero h =
    through (may_precede x (e v)) (may_precede (e v) (e w)) (may_precede x (e w))
    (rise_from (e w) (member_encodings e (listed ws))) (may_precede_through x (e v) (e w))
inserted_rise e x v (w ∷ ws) (suc at) h =
    ap (λ b. may_precede x (e w) && b) (inserted_rise e (e w) v ws at (omega arith))
    ∙ and_swap (may_precede x (e w)) (may_stand e (e w) (e v) ws at && may_lead e (e v) ws at)
    (rise_from (e w) (member_encodings e (listed ws)))
    ∙ ap (λ b. (b && may_lead e (e v) ws at)
    && (may_precede x (e w) && rise_from (e w) (member_encodings e (listed ws)))) (one_further e x (e v) w ws at)

stand_first : (e : Encoding) (y : List ℕ) (items : List TypedValue) (at : ℕ)
    → may_stand e [] y items at ≡ may_follow e y items at
stand_first e y items zero = none_first y
stand_first e y items (suc at) = refl

pub set_stays : (member : TypeSyntax) (sizes : Bounds) (v : TypedValue) (items : List TypedValue) (at : ℕ)
    → at ≤ length items
    → members_fit (SetOf member sizes) (listed (insert items at v))
    ≡ ((value_fits member v && (may_follow (der member) (der member v) items at
    && may_lead (der member) (der member v) items at)) && members_fit (SetOf member sizes) (listed items))
set_stays member sizes v items at h =
    let e = der member in
    let stands = may_follow e (e v) items at && may_lead e (e v) items at in
    let fit = all_fit (value_fits member) (listed items) in
    let rise = rise_from [] (member_encodings e (listed items)) in
    let rises : rise_from [] (member_encodings e (listed (insert items at v))) ≡ (stands && rise) =
    inserted_rise e [] v items at h
    ∙ ap (λ b. (b && may_lead e (e v) items at) && rise) (stand_first e (e v) items at) in
    (λ i. inserted_fit_all (value_fits member) v items at h i && rises i)
    ∙ pairs_swapped (value_fits member v) fit stands rise

-- the same of what a test answers
pub list_stays : (member : TypeSyntax) (sizes : Bounds) (v : TypedValue) (items : List TypedValue) (at : ℕ)
    (result : Result Bool AllocError) → IfOk result (λ found. found ≡ value_fits member v)
    → IfOk result (λ fit. at ≤ length items
    → members_fit (SequenceOf member sizes) (listed (insert items at v))
    ≡ (fit && members_fit (SequenceOf member sizes) (listed items)))
list_stays member sizes v items at (Ok fit) told = λ h.
    inserted_fit_all (value_fits member) v items at h
    ∙ ap (λ b. b && all_fit (value_fits member) (listed items)) (sym told)
list_stays member sizes v items at (Err e) told = tt

pub set_stays_if : (member : TypeSyntax) (sizes : Bounds) (v : TypedValue) (items : List TypedValue) (at : ℕ)
    (result : Result Bool AllocError)
    → IfOk result (λ found. found ≡ (value_fits member v && (may_follow (der member) (der member v) items at
    && may_lead (der member) (der member v) items at)))
    → IfOk result (λ fit. at ≤ length items
    → members_fit (SetOf member sizes) (listed (insert items at v))
    ≡ (fit && members_fit (SetOf member sizes) (listed items)))
set_stays_if member sizes v items at (Ok fit) told = λ h.
    set_stays member sizes v items at h ∙ ap (λ b. b && members_fit (SetOf member sizes) (listed items)) (sym told)
set_stays_if member sizes v items at (Err e) told = tt

pub length_more : (e : Encoding) (v : TypedValue) (items : List TypedValue) (at : ℕ) → at ≤ length items
    → length (joined (member_encodings e (listed (insert items at v))))
    ≡ length (e v) + length (joined (member_encodings e (listed items)))
length_more e v [] zero h = length-append (e v) []
length_more e v [] (suc at) h = absurd (omega arith)
length_more e v (w ∷ ws) zero h = length-append (e v) (joined (member_encodings e (listed (w ∷ ws))))
length_more e v (w ∷ ws) (suc at) h =
    let one = length-append (e w) (joined (member_encodings e (listed (insert ws at v)))) in
    let other = length-append (e w) (joined (member_encodings e (listed ws))) in
    let rest = length_more e v ws at (omega arith) in
    omega (arith, one, other, rest)

pub fit_more : (member : TypeSyntax) (permitted : List TypeSyntax) (items : List TypedValue) (v : TypedValue) (at : ℕ)
    (stay : Bool) → at ≤ length items
    → all_members_fit permitted (listed (insert items at v)) ≡ (stay && all_members_fit permitted (listed items))
    → are_fit member permitted (insert items at v)
    ≡ ((value_fits member v && stay) && are_fit member permitted items)
fit_more member permitted items v at stay h stays =
    (λ i. inserted_fit_all (value_fits member) v items at h i && stays i)
    ∙ pairs_swapped (value_fits member v) (all_fit (value_fits member) (listed items)) stay
    (all_members_fit permitted (listed items))

pub adding_step : (member : TypeSyntax) (permitted : List TypeSyntax) (before items : List TypedValue)
    (v : TypedValue) (at size : ℕ) (fit : Bool) (made after : Additions) → at ≤ length items
    → are_fit member permitted (insert items at v) ≡ (fit && are_fit member permitted items)
    → size ≡ length (der member v) → after.places.items ≡ made.places.items ++ at ∷ []
    → after.octets ≡ counted (size + made.octets) → after.fit ≡ (fit && made.fit)
    → IsAdding member permitted before items made → IsAdding member permitted before (insert items at v) after
adding_step member permitted before items v at size fit made after within fits is_size places octets is_fit so_far =
    let more = length_more (der member) v items at within in
    record {
      fit = is_fit ∙ ap (λ b. fit && b) so_far.fit ∙ sym fits;
      octets = omega (arith, more, so_far.octets, is_size, octets);
      undone = ap (λ ps. without_all ps (listed (insert items at v))) places
          ∙ last_out made.places.items at (listed (insert items at v))
          ∙ ap (without_all made.places.items) (back_out items at v within) ∙ so_far.undone;
    }

-- ---- a member less

left_fit_at : (fits : TypedValue → Bool) (items : List TypedValue) (at : ℕ) → at < length items
    → all_fit fits (listed items) ≡ true → all_fit fits (listed (remove items at)) ≡ true
left_fit_at fits [] at h all = absurd (omega arith)
left_fit_at fits (w ∷ ws) zero h all = (both_true (fits w) (all_fit fits (listed ws)) all).1
left_fit_at fits (w ∷ ws) (suc at) h all =
    let both = both_true (fits w) (all_fit fits (listed ws)) all in
    both_hold (fits w) (all_fit fits (listed (remove ws at))) both.0 (left_fit_at fits ws at (omega arith) both.1)

left_rise_at : (e : Encoding) (items : List TypedValue) (at : ℕ) → at < length items
    → rise_from [] (member_encodings e (listed items)) ≡ true
    → rise_from [] (member_encodings e (listed (remove items at))) ≡ true
left_rise_at e items at h rise =
    let rising = rise_all (map e items) (ap (rise_from []) (sym (encodings_listed e items)) ∙ rise) in
    ap (rise_from []) (encodings_listed e (remove items at))
    ∙ all_rise (map e (remove items at)) (without_rises e items at h rising)

members_left : (type : TypeSyntax) (items : List TypedValue) (at : ℕ) → at < length items
    → members_fit type (listed items) ≡ true → members_fit type (listed (remove items at)) ≡ true
members_left (SequenceOf member sizes) items at h all = left_fit_at (value_fits member) items at h all
members_left (SetOf member sizes) items at h all =
    let both = both_true (all_fit (value_fits member) (listed items))
    (rise_from [] (member_encodings (der member) (listed items))) all in
    both_hold (all_fit (value_fits member) (listed (remove items at)))
    (rise_from [] (member_encodings (der member) (listed (remove items at))))
    (left_fit_at (value_fits member) items at h both.0) (left_rise_at (der member) items at h both.1)
members_left (Tagged tag explicit of) items at h all = members_left of items at h all
members_left _ items at h all = absurd (false≢true all)

all_left : (types : List TypeSyntax) (items : List TypedValue) (at : ℕ) → at < length items
    → all_members_fit types (listed items) ≡ true → all_members_fit types (listed (remove items at)) ≡ true
all_left [] items at h all = refl
all_left (type ∷ types) items at h all =
    let both = both_true (members_fit type (listed items)) (all_members_fit types (listed items)) all in
    both_hold (members_fit type (listed (remove items at))) (all_members_fit types (listed (remove items at)))
    (members_left type items at h both.0) (all_left types items at h both.1)

length_less : (e : Encoding) (items : List TypedValue) (at : ℕ) (d : TypedValue) → at < length items
    → length (joined (member_encodings e (listed items)))
    ≡ length (e (get_or items at d)) + length (joined (member_encodings e (listed (remove items at))))
length_less e [] at d h = absurd (omega arith)
length_less e (w ∷ ws) zero d h = length-append (e w) (joined (member_encodings e (listed ws)))
length_less e (w ∷ ws) (suc at) d h =
    let one = length-append (e w) (joined (member_encodings e (listed ws))) in
    let other = length-append (e w) (joined (member_encodings e (listed (remove ws at)))) in
    let rest = length_less e ws at d (omega arith) in
    omega (arith, one, other, rest)

has_encoding : (e : Encoding) (x : List ℕ) (items : List TypedValue) (at : ℕ) (d : TypedValue)
    → has_at e x items at ≡ true → x ≡ e (get_or items at d)
has_encoding e x [] at d there = absurd (false≢true there)
has_encoding e x (w ∷ ws) zero d there = (bytes_eq-Decides x (e w)).0 there
has_encoding e x (w ∷ ws) (suc at) d there = has_encoding e x ws at d there

pub removing_step : (member : TypeSyntax) (permitted : List TypeSyntax) (before items : List TypedValue)
    (x : List ℕ) (at size : ℕ) (d : TypedValue) (taken : Removal) (made after : Removals)
    → has_at (der member) x items at ≡ true → size ≡ length x → taken.at ≡ at → taken.member ≡ get_or items at d
    → after.members.items ≡ made.members.items ++ taken ∷ [] → after.octets ≡ made.octets - size
    → IsRemoving member permitted before items made → IsRemoving member permitted before (remove items at) after
removing_step member permitted before items x at size d taken made after there is_size place is_member members octets
    so_far =
    let e = der member in
    let within = there_within e x items at there in
    let less = length_less e items at d within in
    let one : length x ≡ length (e (get_or items at d)) = ap length (has_encoding e x items at d there) in
    let both = both_true (all_fit (value_fits member) (listed items)) (all_members_fit permitted (listed items))
    so_far.fit in
    let back : with_at taken.at taken.member (listed (remove items at)) ≡ listed items =
    (λ i. with_at (place i) (is_member i) (listed (remove items at))) ∙ back_in items at d within in
    record {
      fit = both_hold (all_fit (value_fits member) (listed (remove items at)))
          (all_members_fit permitted (listed (remove items at)))
          (left_fit_at (value_fits member) items at within both.0) (all_left permitted items at within both.1);
      octets = omega (arith, less, so_far.octets, one, is_size, octets);
      small = omega (arith, less, so_far.small);
      undone = ap (λ rs. with_all rs (listed (remove items at))) members
          ∙ last_in made.members.items taken (listed (remove items at))
          ∙ ap (with_all made.members.items) back ∙ so_far.undone;
    }

-- ---- before the first member, and behind the last one

members_all : (types : List TypeSyntax) (members : TypedValues)
    → list_all (λ type. value_fits type (Many members)) types ≡ true → all_members_fit types members ≡ true
members_all types members h =
    (both_true (all_numbers_fit types (count members)) (all_members_fit types members)
    (sym (all_told types members) ∙ h)).1

fit_first : (member : TypeSyntax) (sizes : Bounds) (permitted : List TypeSyntax) (items : List TypedValue)
    → value_fits (SetOf member sizes) (Many (listed items)) ≡ true
    → list_all (λ type. value_fits type (Many (listed items))) permitted ≡ true
    → are_fit member permitted items ≡ true
fit_first member sizes permitted items fits all =
    both_hold (all_fit (value_fits member) (listed items)) (all_members_fit permitted (listed items))
    (fit_of member sizes items fits) (members_all permitted (listed items) all)

pub adding_begins : (member : TypeSyntax) (sizes : Bounds) (permitted : List TypeSyntax) (items : List TypedValue)
    (made : Additions) → value_fits (SetOf member sizes) (Many (listed items)) ≡ true
    → list_all (λ type. value_fits type (Many (listed items))) permitted ≡ true
    → made.octets ≡ length_of member items → made.octets ≤ 18446744073709551615 → made.fit ≡ true
    → made.places.items ≡ [] → IsAdding member permitted items items made
adding_begins member sizes permitted items made fits all octets small fit none = record {
  fit = fit ∙ sym (fit_first member sizes permitted items fits all);
  octets = omega (arith, octets, small);
  undone = ap (λ ps. without_all ps (listed items)) none;
}

pub removing_begins : (member : TypeSyntax) (sizes : Bounds) (permitted : List TypeSyntax) (items : List TypedValue)
    (made : Removals) → value_fits (SetOf member sizes) (Many (listed items)) ≡ true
    → list_all (λ type. value_fits type (Many (listed items))) permitted ≡ true
    → made.octets ≡ length_of member items → made.octets ≤ 18446744073709551615 → made.members.items ≡ []
    → IsRemoving member permitted items items made
removing_begins member sizes permitted items made fits all octets small none = record {
  fit = fit_first member sizes permitted items fits all;
  octets = octets;
  small = omega (arith, octets, small);
  undone = ap (λ rs. with_all rs (listed items)) none;
}

-- the value's own tests, by numbers and by members
told_apart : (member : TypeSyntax) (sizes : Bounds) (permitted : List TypeSyntax) (items : List TypedValue)
    → AreRising (der member) items
    → (value_fits (SetOf member sizes) (Many (listed items))
    && list_all (λ type. value_fits type (Many (listed items))) permitted)
    ≡ ((allowed_size sizes (length items) && all_numbers_fit permitted (length items))
    && are_fit member permitted items)
told_apart member sizes permitted items rising =
    let all : list_all (λ type. value_fits type (Many (listed items))) permitted
    ≡ (all_numbers_fit permitted (length items) && all_members_fit permitted (listed items)) =
    all_told permitted (listed items)
    ∙ ap (λ n. all_numbers_fit permitted n && all_members_fit permitted (listed items)) (count_listed items) in
    (λ i. set_told member sizes items rising i && all i)
    ∙ pairs_swapped (allowed_size sizes (length items)) (all_fit (value_fits member) (listed items))
    (all_numbers_fit permitted (length items)) (all_members_fit permitted (listed items))

with_true : (a b : Bool) → b ≡ true → a ≡ (a && b)
with_true true b h = sym h
with_true false b h = refl

pub adding_ends : (member : TypeSyntax) (sizes : Bounds) (permitted : List TypeSyntax) (before items : List TypedValue)
    (made : Additions) (sized allowed : Bool) → AreRising (der member) items
    → IsAdding member permitted before items made
    → sized ≡ (allowed_size sizes (length items) && all_numbers_fit permitted (length items))
    → allowed ≡ (sized && made.fit)
    → allowed ≡ (value_fits (SetOf member sizes) (Many (listed items))
    && list_all (λ type. value_fits type (Many (listed items))) permitted)
adding_ends member sizes permitted before items made sized allowed rising so is_sized is_allowed =
    is_allowed ∙ (λ i. is_sized i && so.fit i) ∙ sym (told_apart member sizes permitted items rising)

pub removing_ends : (member : TypeSyntax) (sizes : Bounds) (permitted : List TypeSyntax) (before items : List TypedValue)
    (made : Removals) (allowed : Bool) → AreRising (der member) items
    → IsRemoving member permitted before items made
    → allowed ≡ (allowed_size sizes (length items) && all_numbers_fit permitted (length items))
    → allowed ≡ (value_fits (SetOf member sizes) (Many (listed items))
    && list_all (λ type. value_fits type (Many (listed items))) permitted)
removing_ends member sizes permitted before items made allowed rising so is_allowed =
    is_allowed
    ∙ with_true (allowed_size sizes (length items) && all_numbers_fit permitted (length items))
    (are_fit member permitted items) so.fit
    ∙ sym (told_apart member sizes permitted items rising)

pub counted_small : (member : TypeSyntax) (permitted : List TypeSyntax) (before items : List TypedValue)
    (made : Removals) → IsRemoving member permitted before items made → made.octets ≡ counted (length_of member items)
counted_small member permitted before items made so = omega (arith, so.octets, so.small)
