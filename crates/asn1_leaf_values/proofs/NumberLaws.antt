-- Numerals as they are read.
use Rattle.std.proofs.Common.{◌≡◌, ◌≤◌, ◌<◌, ◌+◌, ◌-◌, ◌^◌, ℕ, zero, suc, Bool, true, false, cond, List, [], ◌∷◌, ◌++◌}
use Rattle.std.proofs.Common.{length, map, drop, arith, refl, ap, sym, ◌∙◌, append_assoc, Option, None, Some}
use Rattle.std.proofs.lemmas.Bool.Decides.{nat_tests}
use Rattle.std.specs.Char.{digit_value}
use Rattle.std.specs.List.{list_all}
use Rattle.std.specs.Prelude.{◌&&◌, ℤ, nat_lt, nat_le, option_and_then, option_map}
use Rattle.std.specs.Str.Parse.{AllDigits, IsNumeral, digits_value}
use Rattle.term_values.specs.Bounded.{is_digit}
use Rattle.token_grammar.specs.declared.object_identifier.Arc.{Arc}
use Rattle.asn1_leaf_values.specs.Arcs.{arc_number, arc_numbers, where_arc}
use Rattle.asn1_leaf_values.specs.Literals.{numeral, signed, where_whole, is_whole, number_said}
use Rattle.asn1_leaf_values.specs.TextValues.{arc_digits}

digit_is : (c : ℕ) → digit_value c < 10 → is_digit c ≡ true
digit_is c h = grind (arith, nat_tests)

is_digit_value : (c : ℕ) → is_digit c ≡ true → digit_value c < 10
is_digit_value c h = grind (arith, nat_tests)

front_true : (a b : Bool) → a && b ≡ true → a ≡ true
front_true true b h = refl
front_true false b h = h

back_true : (a b : Bool) → a && b ≡ true → b ≡ true
back_true true b h = h
back_true false b h = absurd (cc)

all_digits : (ds : List ℕ) → AllDigits 10 ds → list_all is_digit ds ≡ true
all_digits [] h = refl
all_digits (d ∷ ds) h = rw (digit_is d h.0) (all_digits ds h.1)

digits_all : (ds : List ℕ) → list_all is_digit ds ≡ true → AllDigits 10 ds
digits_all [] h = tt
digits_all (d ∷ ds) h = (
  is_digit_value d (front_true (is_digit d) (list_all is_digit ds) h),
  digits_all ds (back_true (is_digit d) (list_all is_digit ds) h),
)

pub numeral_is : (ds : List ℕ) → IsNumeral 10 ds → numeral ds ≡ Some (digits_value 10 ds)
numeral_is [] h = absurd (let e : 0 < 0 = h.0 in omega arith)
numeral_is (d ∷ ds) h = rw (all_digits (d ∷ ds) h.1) refl

too_great : (minus : Bool) (n : ℕ) → 2 ^ 64 ≤ n → where_whole (signed minus n) ≡ None
too_great false n h = let far : nat_lt n (2 ^ 63) ≡ false = grind (arith, nat_tests) in rw far refl
too_great true zero h = absurd (omega arith)
too_great true (suc n) h = let far : nat_lt n (2 ^ 63) ≡ false = grind (arith, nat_tests) in rw far refl

arc_too_great : (n : ℕ) → 2 ^ 32 ≤ n → where_arc n ≡ None
arc_too_great n h = let far : nat_lt n (2 ^ 32) ≡ false = grind (arith, nat_tests) in rw far refl

arc_small : (n : ℕ) → n < 2 ^ 32 → where_arc n ≡ Some n
arc_small n h = let near : nat_lt n (2 ^ 32) ≡ true = grind (arith, nat_tests) in rw near refl

-- a numeral that is great, or none
great_or_none : {T : Type 0} (f : ℕ → Option T) (ds : List ℕ) (b : Bool) → list_all is_digit ds ≡ b
    → ((n : ℕ) → 2 ^ 64 ≤ n → f n ≡ None) → (IsNumeral 10 ds → digits_value 10 ds < 2 ^ 64 → ⊥)
    → option_and_then f (numeral ds) ≡ None
great_or_none f [] b e far h = refl
great_or_none f (d ∷ ds) false e far h = rw e refl
great_or_none f (d ∷ ds) true e far h =
    let is : IsNumeral 10 (d ∷ ds) = (omega arith, digits_all (d ∷ ds) e) in
    let more : digits_value 10 (d ∷ ds) < 2 ^ 64 → ⊥ = h is in
    rw e (far (digits_value 10 (d ∷ ds)) (omega arith))

pub number_none : (minus : Bool) (ds : List ℕ) → (IsNumeral 10 ds → digits_value 10 ds < 2 ^ 64 → ⊥)
    → number_said minus ds ≡ None
number_none minus ds h =
    great_or_none (λ n. where_whole (signed minus n)) ds (list_all is_digit ds) refl (too_great minus) h

pub number_some : (minus : Bool) (ds : List ℕ) (n : ℕ) → IsNumeral 10 ds × (n ≡ digits_value 10 ds)
    → number_said minus ds ≡ where_whole (signed minus n)
number_some minus ds n h = rw (numeral_is ds h.0) (ap (λ m. where_whole (signed minus m)) (sym h.1))

arc_far : (n : ℕ) → 2 ^ 64 ≤ n → where_arc n ≡ None
arc_far n h = arc_too_great n (omega arith)

pub arc_none : (ds : List ℕ) → (IsNumeral 10 ds → digits_value 10 ds < 2 ^ 64 → ⊥) → arc_number ds ≡ None
arc_none ds h = great_or_none where_arc ds (list_all is_digit ds) refl arc_far h

arc_some : (ds : List ℕ) (n : ℕ) → IsNumeral 10 ds × (n ≡ digits_value 10 ds) → arc_number ds ≡ where_arc n
arc_some ds n h = rw (numeral_is ds h.0) (ap where_arc (sym h.1))

pub arc_found : (ds : List ℕ) (n : ℕ) → IsNumeral 10 ds × (n ≡ digits_value 10 ds) → n < 2 ^ 32 → arc_number ds ≡ Some n
arc_found ds n h small = arc_some ds n h ∙ arc_small n small

pub arc_great : (ds : List ℕ) (n : ℕ) → IsNumeral 10 ds × (n ≡ digits_value 10 ds) → 2 ^ 32 ≤ n → arc_number ds ≡ None
arc_great ds n h far = arc_some ds n h ∙ arc_too_great n far

-- one arc more
one_more : (before : List ℕ) (n : ℕ) (rest : Option (List ℕ))
    → option_map (λ ns. before ++ ns) (option_map (λ ns. n ∷ ns) rest) ≡ option_map
    (λ ns. (before ++ n ∷ []) ++ ns) rest
one_more before n None = refl
one_more before n (Some ns) = ap Some (sym (append_assoc before (n ∷ []) ns))

pub arc_read : (before : List ℕ) (arc : Arc) (left rest : List Arc) (n : ℕ) → left ≡ arc ∷ rest
    → arc_number (arc_digits arc) ≡ Some n
    → option_map (λ ns. before ++ ns) (arc_numbers (map arc_digits left))
    ≡ option_map (λ ns. (before ++ n ∷ []) ++ ns) (arc_numbers (map arc_digits rest))
arc_read before arc left rest n e is = rw (e, is) (one_more before n (arc_numbers (map arc_digits rest)))

pub arc_missing : (before : List ℕ) (arc : Arc) (left rest : List Arc) → left ≡ arc ∷ rest
    → arc_number (arc_digits arc) ≡ None
    → option_map (λ ns. before ++ ns) (arc_numbers (map arc_digits left)) ≡ None
arc_missing before arc left rest e is = rw (e, is) refl

pub digits_read : (before : List ℕ) (digits : List ℕ) (others : List (List ℕ)) (n : ℕ) → arc_number digits ≡ Some n
    → option_map (λ ns. before ++ ns) (arc_numbers (digits ∷ others))
    ≡ option_map (λ ns. (before ++ n ∷ []) ++ ns) (arc_numbers others)
digits_read before digits others n is = rw is (one_more before n (arc_numbers others))

pub digits_missing : (before : List ℕ) (digits : List ℕ) (others : List (List ℕ)) → arc_number digits ≡ None
    → option_map (λ ns. before ++ ns) (arc_numbers (digits ∷ others)) ≡ None
digits_missing before digits others is = rw is refl

then_by : (before arcs digits : List ℕ) (others : List (List ℕ)) (o : Option ℕ) → arc_number digits ≡ o
    → option_map (λ n. before ++ n ∷ []) o ≡ Some arcs
    → option_map (λ ns. before ++ ns) (arc_numbers (digits ∷ others)) ≡ option_map (λ ns. arcs ++ ns)
    (arc_numbers others)
then_by before arcs digits others None e is = absurd (cc)
then_by before arcs digits others (Some n) e is =
    let same : before ++ n ∷ [] ≡ arcs = cc in
    digits_read before digits others n e
    ∙ ap (λ (xs : List ℕ). option_map (λ ns. xs ++ ns) (arc_numbers others)) same

-- the arcs with one more, and the others behind them
pub digits_then : (before arcs digits : List ℕ) (others : List (List ℕ))
    → option_map (λ n. before ++ n ∷ []) (arc_number digits) ≡ Some arcs
    → option_map (λ ns. before ++ ns) (arc_numbers (digits ∷ others)) ≡ option_map (λ ns. arcs ++ ns)
    (arc_numbers others)
digits_then before arcs digits others is = then_by before arcs digits others (arc_number digits) refl is

none_by : (before digits : List ℕ) (others : List (List ℕ)) (o : Option ℕ) → arc_number digits ≡ o
    → option_map (λ n. before ++ n ∷ []) o ≡ None
    → option_map (λ ns. before ++ ns) (arc_numbers (digits ∷ others)) ≡ None
none_by before digits others None e is = digits_missing before digits others e
none_by before digits others (Some n) e is = absurd (cc)

pub digits_none : (before digits : List ℕ) (others : List (List ℕ))
    → option_map (λ n. before ++ n ∷ []) (arc_number digits) ≡ None
    → option_map (λ ns. before ++ ns) (arc_numbers (digits ∷ others)) ≡ None
digits_none before digits others is = none_by before digits others (arc_number digits) refl is
