-- Examples of X.690, computed from the definitions.
use Rattle.std.proofs.Common.{◌≡◌, [], ◌∷◌, true, false, pos, negsuc, refl}
use Rattle.ber_tree.specs.Integers.{are_least, signed_number}
use Rattle.ber_tree.specs.Subidentifiers.{grouped}
use Rattle.ber_tree.specs.Writing.{group, last_octets}

-- 00 80 is 128, and its first octet is needed; FF 7F is -129: X.690, section 8.3
example_128 : signed_number (0x00 ∷ 0x80 ∷ []) ≡ pos 128
example_128 = refl

example_minus_129 : signed_number (0xFF ∷ 0x7F ∷ []) ≡ negsuc 128
example_minus_129 = refl

example_least : are_least (0x00 ∷ 0x80 ∷ []) ≡ true
example_least = refl

-- FF 80 is -128 in one octet too many
example_not_least : are_least (0xFF ∷ 0x80 ∷ []) ≡ false
example_not_least = refl

example_last_octets : last_octets true 2 128 ≡ 0xFF ∷ 0x7F ∷ []
example_last_octets = refl

-- 88 37 is 1079, the first two arcs of 2.999: X.690, section 8.19.5
example_grouped : grouped (0x88 ∷ 0x37 ∷ []) ≡ 1079
example_grouped = refl

example_group : group 128 1079 ≡ 0x88 ∷ []
example_group = refl
