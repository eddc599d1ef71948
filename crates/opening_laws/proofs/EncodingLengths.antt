-- How many octets identifiers, whole numbers and headers take at most.
use Rattle.std.proofs.Common.{◌≡◌, ℕ, zero, suc, ◌+◌, ◌*◌, ◌≤◌, Bool, true, false, List, [], ◌∷◌, ◌++◌, length, refl}
use Rattle.std.proofs.Common.{ap, arith, length-append}
use Rattle.std.proofs.lemmas.List.{length-map}
use Rattle.std.proofs.lemmas.Bool.{and_parts, false≢true}
use Rattle.std.specs.Prelude.{ℤ, pos, negsuc, ◌-◌, ◌^◌, flat_map, nat_le, nat_lt, if◌then◌else◌}
use Rattle.term_values.specs.declared.tag.Tag.{Tag}
use Rattle.term_values.specs.Der.{encoded, identifier_octets, leading_bits, length_octets}
use Rattle.term_values.specs.Octets.{count_signed, count_unsigned, integer_contents, octets}
use Rattle.term_values.specs.Oid.{begins, groups, groups_before, is_oid, oid_contents, subidentifier}
use Rattle.term_values.proofs.NumberLaws.{length-octets}

chosen : (b : Bool) (x y most : ℕ) → x ≤ most → y ≤ most → (if b then x else y) ≤ most
chosen true x y most one other = one
chosen false x y most one other = other

-- ---- headers

unsigned_few : (n : ℕ) → count_unsigned n ≤ 8
unsigned_few n =
    chosen (nat_lt n (256 ^ 1)) 1 _ 8 (omega arith)
    (chosen (nat_lt n (256 ^ 2)) 2 _ 8 (omega arith)
    (chosen (nat_lt n (256 ^ 3)) 3 _ 8 (omega arith)
    (chosen (nat_lt n (256 ^ 4)) 4 _ 8 (omega arith)
    (chosen (nat_lt n (256 ^ 5)) 5 _ 8 (omega arith)
    (chosen (nat_lt n (256 ^ 6)) 6 _ 8 (omega arith)
    (chosen (nat_lt n (256 ^ 7)) 7 8 8 (omega arith) (omega arith)))))))

long_form : (n : ℕ) → length ((128 + count_unsigned n) ∷ octets (count_unsigned n) n) ≤ 9
long_form n =
    let few = unsigned_few n in
    let counted = length-octets (count_unsigned n) n in
    omega arith

either_length : (b : Bool) (xs ys : List ℕ) (most : ℕ) → length xs ≤ most → length ys ≤ most
    → length (if b then xs else ys) ≤ most
either_length true xs ys most one other = one
either_length false xs ys most one other = other

length_short : (n : ℕ) → length (length_octets n) ≤ 9
unfolding length_octets
length_short n =
    either_length (nat_lt n 128) (n ∷ []) ((128 + count_unsigned n) ∷ octets (count_unsigned n) n) 9 (omega arith)
    (long_form n)

groups_length : (more n : ℕ) → length (groups more n) ≡ suc more
groups_length zero n = refl
groups_length (suc more) n = ap suc (groups_length more n)

before_few : (n : ℕ) → groups_before n ≤ 4
before_few n =
    chosen (nat_lt n 128) 0 _ 4 (omega arith)
    (chosen (nat_lt n (128 ^ 2)) 1 _ 4 (omega arith)
    (chosen (nat_lt n (128 ^ 3)) 2 _ 4 (omega arith)
    (chosen (nat_lt n (128 ^ 4)) 3 4 4 (omega arith) (omega arith))))

subidentifier_short : (n : ℕ) → length (subidentifier n) ≤ 5
unfolding subidentifier
subidentifier_short n =
    let few = before_few n in
    let counted = groups_length (groups_before n) n in
    omega arith

identifier_short : (constructed : Bool) (tag : Tag) → length (identifier_octets constructed tag) ≤ 6
unfolding identifier_octets
identifier_short constructed tag =
    let short = subidentifier_short tag.number in
    either_length (nat_lt tag.number 31) ((leading_bits constructed tag + tag.number) ∷ [])
    ((leading_bits constructed tag + 31) ∷ subidentifier tag.number) 6 (omega arith) (omega (arith, short))

header_length : (constructed : Bool) (tag : Tag) (contents : List ℕ)
    → length (encoded constructed tag contents)
    ≡ length (identifier_octets constructed tag) + length (length_octets (length contents)) + length contents
header_length constructed tag contents =
    let one = length-append (identifier_octets constructed tag) (length_octets (length contents) ++ contents) in
    let two = length-append (length_octets (length contents)) contents in
    omega (arith, one, two)

pub encoded_short : (constructed : Bool) (tag : Tag) (contents : List ℕ)
    → length (encoded constructed tag contents) ≤ 15 + length contents
encoded_short constructed tag contents =
    let is = header_length constructed tag contents in
    let one = identifier_short constructed tag in
    let two = length_short (length contents) in
    omega (arith, is, one, two)

pub contents_within : (constructed : Bool) (tag : Tag) (contents : List ℕ)
    → length contents ≤ length (encoded constructed tag contents)
contents_within constructed tag contents =
    let is = header_length constructed tag contents in
    omega (arith, is)

-- ---- contents

all_arcs_short : (arcs : List ℕ) → length (flat_map subidentifier arcs) ≤ 5 * length arcs
all_arcs_short [] = omega arith
all_arcs_short (arc ∷ arcs) =
    let whole = length-append (subidentifier arc) (flat_map subidentifier arcs) in
    let one = subidentifier_short arc in
    let others = all_arcs_short arcs in
    omega (arith, whole, one, others)

pub at_most : (a b : ℕ) → nat_le a b ≡ true → a ≤ b
at_most a b e = grind (arith, e)

pub identifier_contents_short : (arcs : List ℕ) → is_oid arcs ≡ true → length (oid_contents arcs) ≤ 315
identifier_contents_short [] e = absurd (false≢true e)
identifier_contents_short (first ∷ []) e = absurd (false≢true e)
identifier_contents_short (first ∷ second ∷ others) e =
    let few = at_most (length others) 62 (and_parts (nat_le (length others) 62) (begins first second) e).0 in
    let whole = length-append (subidentifier (first * 40 + second)) (flat_map subidentifier others) in
    let one = subidentifier_short (first * 40 + second) in
    let rest = all_arcs_short others in
    omega (arith, few, whole, one, rest)

signed_few : (n : ℕ) → count_signed n ≤ 8
signed_few n =
    chosen (nat_lt n (2 ^ 7)) 1 _ 8 (omega arith)
    (chosen (nat_lt n (2 ^ 15)) 2 _ 8 (omega arith)
    (chosen (nat_lt n (2 ^ 23)) 3 _ 8 (omega arith)
    (chosen (nat_lt n (2 ^ 31)) 4 _ 8 (omega arith)
    (chosen (nat_lt n (2 ^ 39)) 5 _ 8 (omega arith)
    (chosen (nat_lt n (2 ^ 47)) 6 _ 8 (omega arith)
    (chosen (nat_lt n (2 ^ 55)) 7 8 8 (omega arith) (omega arith)))))))

pub whole_contents_short : (n : ℤ) → length (integer_contents n) ≤ 8
unfolding integer_contents
whole_contents_short (pos n) =
    let few = signed_few n in
    let counted = length-octets (count_signed n) n in
    omega arith
whole_contents_short (negsuc n) =
    let few = signed_few n in
    let counted = length-octets (count_signed n) n in
    let turned = length-map (octets (count_signed n) n) (λ octet. 255 - octet) in
    omega arith
