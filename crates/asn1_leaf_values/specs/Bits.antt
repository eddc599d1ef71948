-- Bits: which bits `'..'H` and `'..'B` stand for, and bits as octets (X.680, sections 12.10, 12.12 and 22.10 to 23.5).
use Rattle.std.specs.Prelude.{ℕ, zero, suc, ◌+◌, ◌-◌, ◌/◌, ◌%◌, List, [], ◌∷◌, ◌++◌, Bool, true, false, ◌==◌, nat_lt}
use Rattle.std.specs.Prelude.{length, Option, None, Some, option_map, if◌then◌else◌}
use Rattle.token_grammar.specs.Kinds.{hexadecimal_kind, binary_kind}
use Rattle.token_grammar.specs.declared.token.Token.{Token}

-- the number of a digit: 0 to 9, A to F
abbrev pub digit_number : ℕ → ℕ
digit_number digit = if nat_lt digit 65 then digit - 48 else digit - 55

-- its four bits, the first one first
abbrev pub digit_bits : ℕ → List Bool
digit_bits n = ((n / 8 % 2) == 1) ∷ ((n / 4 % 2) == 1) ∷ ((n / 2 % 2) == 1) ∷ ((n % 2) == 1) ∷ []

-- the digits up to the apostrophe that ends them
abbrev pub hexadecimal_bits : List ℕ → List Bool
hexadecimal_bits [] = []
hexadecimal_bits (digit ∷ others) =
    if digit == 39 then [] else digit_bits (digit_number digit) ++ hexadecimal_bits others

abbrev pub binary_bits : List ℕ → List Bool
binary_bits [] = []
binary_bits (digit ∷ others) = if digit == 39 then [] else (digit == 49) ∷ binary_bits others

-- what stands behind the apostrophe with which a literal begins
abbrev pub behind_first : List ℕ → List ℕ
behind_first [] = []
behind_first (first ∷ others) = others

-- the bits that digits between apostrophes stand for
abbrev pub bits_of : Token → Option (List Bool)
bits_of token =
    if token.kind == hexadecimal_kind then Some (hexadecimal_bits (behind_first token.text))
    else (if token.kind == binary_kind then Some (binary_bits (behind_first token.text)) else None)

-- the number of bits of which the first one counts so much; those that are missing are 0
abbrev pub weighed : ℕ → List Bool → ℕ
weighed weight [] = 0
weighed weight (bit ∷ bits) = (if bit then weight else 0) + weighed (weight / 2) bits

-- bits in octets, the last one filled up with 0 bits
abbrev pub packed : List Bool → List ℕ
packed [] = []
packed (a ∷ (b ∷ (c ∷ (d ∷ (e ∷ (f ∷ (g ∷ (h ∷ rest)))))))) =
    weighed 128 (a ∷ b ∷ c ∷ d ∷ e ∷ f ∷ g ∷ h ∷ []) ∷ packed rest
packed few = weighed 128 few ∷ []

-- how many bits of the last octet are filled up
abbrev pub filled : List Bool → ℕ
filled bits = (8 - length bits % 8) % 8
