-- Tests of values that hold no others: X.680, sections 17 to 24, 32, 41 and 46. The relation is `Fits` of term_values.
use Rattle.std.specs.List.{list_all}
use Rattle.std.specs.Prelude.{ℕ, ◌*◌, ◌/◌, ◌^◌, List, [], ◌∷◌, Bool, true, false, ◌==◌, ◌&&◌, ◌||◌, nat_lt, length}
use Rattle.std.specs.Prelude.{ℤ, pos, negsuc}
use Rattle.term_values.specs.Bounded.{allowed, allowed_size, bit_count, is_named, has_character}
use Rattle.term_values.specs.Oid.{is_oid, is_arc}
use Rattle.term_values.specs.Syntaxes.{Named, Bounds}
use Rattle.term_values.specs.Times.{is_time}
use Rattle.term_values.specs.Typed.{TypedValue}
use Rattle.term_values.specs.Typed.TypedValue.{Truth, Int, Bits, Octets, Null, Identifier, Text, Time}
use Rattle.term_values.specs.declared.charset.Charset.{Charset}

abbrev pub truth_fits : TypedValue → Bool
truth_fits (Truth holds) = true
truth_fits _ = false

-- the number has 64 bits
abbrev pub is_whole : ℤ → Bool
is_whole (pos n) = nat_lt n (2 ^ 63)
is_whole (negsuc n) = nat_lt n (2 ^ 63)

abbrev pub whole_fits : Bounds → TypedValue → Bool
whole_fits ranges (Int n) = is_whole n && allowed ranges n
whole_fits ranges _ = false

abbrev pub named_fits : Named → TypedValue → Bool
named_fits names (Int n) = is_whole n && is_named names n
named_fits names _ = false

-- so many last bits of the last octet are 0
abbrev pub is_cleared : List ℕ → ℕ → Bool
is_cleared [] unused = true
is_cleared (octet ∷ []) unused = octet / 2 ^ unused * 2 ^ unused == octet
is_cleared (octet ∷ (next ∷ others)) unused = is_cleared (next ∷ others) unused

-- at most seven bits of the last octet are unused, and they are 0; no octets have no unused bits
abbrev pub are_bits : List ℕ → ℕ → Bool
are_bits octets unused = nat_lt unused 8 && ((unused == 0 || nat_lt 0 (length octets)) && is_cleared octets unused)

abbrev pub bits_fit : Bounds → TypedValue → Bool
bits_fit sizes (Bits octets unused) = are_bits octets unused && allowed_size sizes (bit_count octets unused)
bits_fit sizes _ = false

abbrev pub octets_fit : Bounds → TypedValue → Bool
octets_fit sizes (Octets octets) = allowed_size sizes (length octets)
octets_fit sizes _ = false

abbrev pub null_fits : TypedValue → Bool
null_fits Null = true
null_fits _ = false

abbrev pub are_arcs : List ℕ → Bool
are_arcs arcs = is_oid arcs && list_all is_arc arcs

abbrev pub identifier_fits : TypedValue → Bool
identifier_fits (Identifier arcs) = are_arcs arcs
identifier_fits _ = false

abbrev pub text_fits : Charset → Bounds → TypedValue → Bool
text_fits charset sizes (Text octets) =
    list_all (has_character charset) octets && allowed_size sizes (length octets)
text_fits charset sizes _ = false

abbrev pub time_fits : TypedValue → Bool
time_fits (Time octets) = is_time octets
time_fits _ = false
