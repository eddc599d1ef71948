-- Which strings a tree spells, its own tag apart: X.690, sections 8.6, 8.7 and 8.23. The segments of a constructed
-- string of octets or of characters are OCTET STRINGs, those of a BIT STRING BIT STRINGs.
use Rattle.std.specs.Prelude.{◌≡◌, ℕ, ◌*◌, ◌/◌, ◌^◌, ◌<◌, List, [], ◌∷◌, ◌++◌}
use Rattle.term_values.specs.Tree.{TreeValue, TreeValues}
use Rattle.term_values.specs.Tree.TreeValue.{Primitive, Constructed}
use Rattle.term_values.specs.Tree.TreeValues.{Nothing, Then}
use Rattle.term_values.specs.TreeTags.{tag_of}
use Rattle.term_values.specs.UniversalTags.{octet_string, bit_string}

abbrev mutual
  pub SpellsOctets : TreeValue → List ℕ → Type 0
  SpellsOctets (Primitive tag contents) octets = octets ≡ contents
  SpellsOctets (Constructed tag inside) octets = SegmentsSpell inside octets

  -- segments one after the other
  pub SegmentsSpell : TreeValues → List ℕ → Type 0
  SegmentsSpell Nothing octets = octets ≡ []
  SegmentsSpell (Then x xs) octets =
      (front back : List ℕ) × (octets ≡ front ++ back) × (tag_of x ≡ octet_string) × SpellsOctets x front
      × SegmentsSpell xs back

-- the octets with the last bits of the last one 0
abbrev pub cleared : ℕ → List ℕ → List ℕ
cleared unused [] = []
cleared unused (x ∷ []) = (x / 2 ^ unused * 2 ^ unused) ∷ []
cleared unused (x ∷ (y ∷ ys)) = x ∷ cleared unused (y ∷ ys)

-- at most seven bits of the last octet are unused, and they are 0; no octets have no unused bits
abbrev pub AreBits : List ℕ → ℕ → Type 0
AreBits octets unused = (unused < 8) × ((octets ≡ []) → unused ≡ 0) × (octets ≡ cleared unused octets)

-- the contents octets of a primitive BIT STRING: how many bits are unused, and the octets, whose unused bits may be any
abbrev pub BitContents : List ℕ → List ℕ → ℕ → Type 0
BitContents contents octets unused =
    (given : List ℕ) × (contents ≡ unused ∷ given) × (unused < 8) × ((given ≡ []) → unused ≡ 0)
    × (octets ≡ cleared unused given)

abbrev mutual
  -- the octets and the number of unused bits
  pub SpellsBits : TreeValue → List ℕ → ℕ → Type 0
  SpellsBits (Primitive tag contents) octets unused = BitContents contents octets unused
  SpellsBits (Constructed tag inside) octets unused = BitSegmentsSpell inside octets unused

  -- only the last segment may have unused bits
  pub BitSegmentsSpell : TreeValues → List ℕ → ℕ → Type 0
  BitSegmentsSpell Nothing octets unused = (octets ≡ []) × (unused ≡ 0)
  BitSegmentsSpell (Then x Nothing) octets unused = (tag_of x ≡ bit_string) × SpellsBits x octets unused
  BitSegmentsSpell (Then x (Then y ys)) octets unused =
      (front back : List ℕ) × (octets ≡ front ++ back) × (tag_of x ≡ bit_string) × SpellsBits x front 0
      × BitSegmentsSpell (Then y ys) back unused
