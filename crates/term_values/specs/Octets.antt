-- Whole numbers as octets, the most significant one first: X.690, sections 8.1.3.5 and 8.3.
use Rattle.std.specs.Prelude.{ℕ, zero, suc, ◌+◌, ◌-◌, ◌*◌, ◌/◌, ◌%◌, ◌^◌, List, [], ◌∷◌, Bool, true, false, ◌&&◌, not}
use Rattle.std.specs.Prelude.{◌==◌, nat_lt, nat_le, Option, None, Some, length, map, if◌then◌else◌, ℤ, pos, negsuc}

-- the number that octets stand for
abbrev pub number : List ℕ → ℕ
number [] = 0
number (octet ∷ octets) = octet * 256 ^ length octets + number octets

-- a number below 256 ^ count in count octets
abbrev pub octets : ℕ → ℕ → List ℕ
octets zero n = []
octets (suc count) n = (n / 256 ^ count % 256) ∷ octets count n

-- how many octets a number below 2 ^ 64 takes without a sign, at least one
abbrev pub count_unsigned : ℕ → ℕ
count_unsigned n =
    if nat_lt n (256 ^ 1) then 1
    else (if nat_lt n (256 ^ 2) then 2 else (if nat_lt n (256 ^ 3) then 3 else (if nat_lt n (256 ^ 4) then 4
    else (if nat_lt n (256 ^ 5) then 5
    else (if nat_lt n (256 ^ 6) then 6 else (if nat_lt n (256 ^ 7) then 7 else 8))))))

-- how many octets leave the first bit of a number below 2 ^ 63 zero
abbrev pub count_signed : ℕ → ℕ
count_signed n =
    if nat_lt n (2 ^ 7) then 1
    else (if nat_lt n (2 ^ 15) then 2 else (if nat_lt n (2 ^ 23) then 3 else (if nat_lt n (2 ^ 31) then 4
    else (if nat_lt n (2 ^ 39) then 5 else (if nat_lt n (2 ^ 47) then 6 else (if nat_lt n (2 ^ 55) then 7 else 8))))))

-- the contents octets of an INTEGER of 64 bits: two's complement, in as few octets as hold it. That of -(n + 1) is n
-- with each bit turned. X.690, section 8.3.
unfoldable pub integer_contents : ℤ → List ℕ
integer_contents (pos n) = octets (count_signed n) n
integer_contents (negsuc n) = map (λ octet. 255 - octet) (octets (count_signed n) n)

-- an octet with each bit turned, or as it is
abbrev pub octet_turned : Bool → ℕ → ℕ
octet_turned true octet = 255 - octet
octet_turned false octet = octet

-- there are octets, and the first nine bits are neither all zero nor all one: X.690, section 8.3.2
abbrev pub are_least : List ℕ → Bool
are_least [] = false
are_least (first ∷ []) = true
are_least (first ∷ second ∷ others) = not (first == 0 && nat_lt second 128) && not (first == 255 && nat_le 128 second)

-- the value in two's complement: the first bit is the sign
abbrev pub signed_number : List ℕ → ℤ
signed_number [] = pos 0
signed_number (first ∷ others) =
    if nat_lt first 128 then pos (number (first ∷ others)) else negsuc
    (number (map (octet_turned true) (first ∷ others)))

-- the number of 64 bits that contents octets denote
unfoldable pub integer_in : List ℕ → Option ℤ
integer_in contents = if nat_le (length contents) 8 && are_least contents then Some (signed_number contents) else None
