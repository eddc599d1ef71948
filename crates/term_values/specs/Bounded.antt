-- Ranges, sizes, named numbers and the characters of string types: X.680, sections 19, 20, 41 and 51.
use Rattle.std.specs.Prelude.{ℕ, ◌-◌, ◌*◌, ℤ, pos, List, [], ◌∷◌, Bool, true, false, ◌==◌, ◌&&◌, ◌||◌, nat_lt, nat_le}
use Rattle.std.specs.Prelude.{int_le, length}
use Rattle.std.specs.Ordering.{int_eq}
use Rattle.term_values.specs.Syntaxes.{Named, Bounds}
use Rattle.term_values.specs.declared.charset.Charset.{Charset}
use Rattle.term_values.specs.declared.charset.Charset.TheVariants as charsets

-- some pair holds the number
abbrev pub one_allows : Bounds → ℤ → Bool
one_allows [] n = false
one_allows (pair ∷ pairs) n = int_le pair.0 n && int_le n pair.1 || one_allows pairs n

-- no bound is stated, or some pair holds the number
abbrev pub allowed : Bounds → ℤ → Bool
allowed [] n = true
allowed (pair ∷ pairs) n = one_allows (pair ∷ pairs) n

-- the size of a string of octets, or of a list
abbrev pub allowed_size : Bounds → ℕ → Bool
allowed_size bounds size = allowed bounds (pos size)

-- how many bits a BIT STRING has
abbrev pub bit_count : List ℕ → ℕ → ℕ
bit_count octets unused = 8 * length octets - unused

-- some name has the number
abbrev pub is_named : Named → ℤ → Bool
is_named [] n = false
is_named (name ∷ names) n = int_eq name.1 n || is_named names n

abbrev pub is_between : ℕ → ℕ → ℕ → Bool
is_between least most octet = nat_le least octet && nat_le octet most

abbrev pub is_digit : ℕ → Bool
is_digit octet = is_between 48 57 octet

-- X.680, table 10: letters, digits, space, ' ( ) + , - . / : = ?
abbrev pub is_printable : ℕ → Bool
is_printable octet =
    is_between 65 90 octet || is_between 97 122 octet || is_digit octet || octet == 32 || is_between 39 41 octet
    || is_between 43 47 octet || octet == 58 || octet == 61 || octet == 63

-- the string type has the character
abbrev pub has_character : Charset → ℕ → Bool
has_character charsets.Numeric octet = is_digit octet || octet == 32
has_character charsets.Printable octet = is_printable octet
has_character charsets.Ia5 octet = nat_lt octet 128
has_character charsets.Visible octet = is_between 32 126 octet
has_character charsets.Graphic octet = true
