-- Numbers by which values that hold no others are compared without writing them, in the order of their encodings:
-- X.690, sections 8 and 11.6. Of values of one type the shorter one stands first, and among equally long ones the first
-- octet that differs decides.
use Rattle.std.specs.Prelude.{ℕ, ◌+◌, ◌-◌, ◌*◌, ◌/◌, ◌%◌, ℤ, pos, negsuc, List, [], ◌∷◌, map, nat_lt, length}
use Rattle.std.specs.Prelude.{if◌then◌else◌}
use Rattle.term_values.specs.Octets.{count_signed}
use Rattle.term_values.specs.Typed.{TypedValue}
use Rattle.term_values.specs.Typed.TypedValue.{Truth, Int, Bits, Octets, Identifier, Text, Time, Raw}

-- how many octets a subidentifier has
abbrev pub arc_size : ℕ → ℕ
arc_size n =
    if nat_lt n 128 then 1
    else (if nat_lt n 16384 then 2 else (if nat_lt n 2097152 then 3 else (if nat_lt n 268435456 then 4 else 5)))

-- five octets as one number
abbrev pub five : ℕ → ℕ → ℕ → ℕ → ℕ → ℕ
five a b c d e = a * 4294967296 + b * 16777216 + c * 65536 + d * 256 + e

-- its octets, and as many more that are zero as make five
abbrev pub arc_place : ℕ → ℕ
arc_place n =
    if nat_lt n 128 then five n 0 0 0 0
    else (if nat_lt n 16384 then five (128 + n / 128) (n % 128) 0 0 0
    else (if nat_lt n 2097152 then five (128 + n / 16384) (128 + n / 128 % 128) (n % 128) 0 0
    else (if nat_lt n 268435456
    then five (128 + n / 2097152) (128 + n / 16384 % 128) (128 + n / 128 % 128) (n % 128) 0
    else five (128 + n / 268435456) (128 + n / 2097152 % 128) (128 + n / 16384 % 128) (128 + n / 128 % 128) (n % 128))))

-- the numbers of the subidentifiers: X.690, section 8.19.4
abbrev pub subidentifiers : List ℕ → List ℕ
subidentifiers (first ∷ (second ∷ others)) = (first * 40 + second) ∷ others
subidentifiers arcs = []

abbrev pub arcs_size : List ℕ → ℕ
arcs_size [] = 0
arcs_size (arc ∷ arcs) = arc_size arc + arcs_size arcs

-- two's complement of 64 bits, so of whole numbers with as many octets one below zero stands behind the others
abbrev pub whole_place : ℤ → ℕ
whole_place (pos n) = n
whole_place (negsuc n) = 18446744073709551615 - n

abbrev pub magnitude : ℤ → ℕ
magnitude (pos n) = n
magnitude (negsuc n) = n

abbrev pub whole_key : ℤ → List ℕ
whole_key n = count_signed (magnitude n) ∷ (whole_place n ∷ [])

-- the numbers of a value that holds no others. Those of other forms have none.
abbrev pub leaf_key : TypedValue → List ℕ
leaf_key (Truth holds) = (if holds then 1 else 0) ∷ []
leaf_key (Int n) = whole_key n
leaf_key (Bits octets unused) = length octets ∷ (unused ∷ octets)
leaf_key (Octets octets) = length octets ∷ octets
leaf_key (Identifier arcs) = arcs_size (subidentifiers arcs) ∷ map arc_place (subidentifiers arcs)
leaf_key (Text octets) = length octets ∷ octets
leaf_key (Time octets) = length octets ∷ octets
leaf_key (Raw octets) = octets
leaf_key _ = []
