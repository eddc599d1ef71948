-- The value that a tree denotes, where it holds no others, its own tag apart: X.690, sections 8.2 to 8.8, 8.19 and
-- 8.23. The relations are in Denotes and Strings.
use Rattle.std.specs.List.{list_all}
use Rattle.std.specs.Prelude.{ℕ, List, [], ◌∷◌, ◌++◌, Bool, true, false, ◌==◌, ◌&&◌, ◌||◌, not, nat_lt, Option, None}
use Rattle.std.specs.Prelude.{Some, option_map, option_and_then, length, if◌then◌else◌}
use Rattle.term_values.specs.Bounded.{allowed, allowed_size, bit_count, is_named, has_character}
use Rattle.term_values.specs.Octets.{integer_in}
use Rattle.term_values.specs.Oid.{oid_in}
use Rattle.term_values.specs.Strings.{cleared}
use Rattle.term_values.specs.Syntaxes.{Named, Bounds}
use Rattle.term_values.specs.Tag.{is_same_tag}
use Rattle.term_values.specs.Times.{is_time, is_nothing}
use Rattle.term_values.specs.Tree.{TreeValue, TreeValues}
use Rattle.term_values.specs.Tree.TreeValue.{Primitive, Constructed}
use Rattle.term_values.specs.Tree.TreeValues.{Nothing, Then}
use Rattle.term_values.specs.TreeTags.{tag_of}
use Rattle.term_values.specs.Typed.{TypedValue}
use Rattle.term_values.specs.Typed.TypedValue.{Truth, Int, Bits, Octets, Null, Identifier, Text, Time}
use Rattle.term_values.specs.UniversalTags.{octet_string, bit_string}
use Rattle.term_values.specs.declared.charset.Charset.{Charset}

-- the contents octets of a primitive value
abbrev pub contents_in : TreeValue → Option (List ℕ)
contents_in (Primitive tag contents) = Some contents
contents_in (Constructed tag inside) = None

abbrev mutual
  -- the octets of a string, primitive or constructed
  pub octets_in : TreeValue → Option (List ℕ)
  octets_in (Primitive tag contents) = Some contents
  octets_in (Constructed tag inside) = segments_in inside

  pub segments_in : TreeValues → Option (List ℕ)
  segments_in Nothing = Some []
  segments_in (Then x xs) =
      if is_same_tag (tag_of x) octet_string
      then option_and_then (λ front. option_map (λ back. front ++ back) (segments_in xs)) (octets_in x) else None

-- the octets and the number of unused bits that contents octets give
abbrev pub bits_of : List ℕ → Option (List ℕ × ℕ)
bits_of [] = None
bits_of (unused ∷ given) =
    if nat_lt unused 8 && (unused == 0 || not (is_nothing given)) then Some (cleared unused given, unused) else None

abbrev pub no_trees : TreeValues → Bool
no_trees Nothing = true
no_trees (Then x xs) = false

abbrev pub with_more : (List ℕ × ℕ) → Option (List ℕ × ℕ) → Option (List ℕ × ℕ)
with_more front back = option_map (λ (rest : List ℕ × ℕ). (front.0 ++ rest.0, rest.1)) back

abbrev mutual
  -- the octets of a BIT STRING, primitive or constructed, and how many bits of the last one are unused
  pub bits_in : TreeValue → Option (List ℕ × ℕ)
  bits_in (Primitive tag contents) = bits_of contents
  bits_in (Constructed tag inside) = bit_segments_in inside

  pub bit_segments_in : TreeValues → Option (List ℕ × ℕ)
  bit_segments_in Nothing = Some ([], 0)
  bit_segments_in (Then x xs) =
      if is_same_tag (tag_of x) bit_string
      then option_and_then (λ (front : List ℕ × ℕ).
      if no_trees xs then Some front
      else (if front.1 == 0 then with_more front (bit_segments_in xs) else None)) (bits_in x)
      else None

abbrev pub truth_of : List ℕ → Option TypedValue
truth_of (octet ∷ []) = Some (Truth (not (octet == 0)))
truth_of _ = None

abbrev pub null_of : List ℕ → Option TypedValue
null_of [] = Some Null
null_of (octet ∷ octets) = None

-- a value that passes the test
abbrev pub where_it : Bool → TypedValue → Option TypedValue
where_it holds value = if holds then Some value else None

abbrev pub truth_in : TreeValue → Option TypedValue
truth_in tree = option_and_then truth_of (contents_in tree)

abbrev pub null_in : TreeValue → Option TypedValue
null_in tree = option_and_then null_of (contents_in tree)

abbrev pub whole_in : Bounds → TreeValue → Option TypedValue
whole_in ranges tree =
    option_and_then (λ n. where_it (allowed ranges n) (Int n)) (option_and_then integer_in (contents_in tree))

abbrev pub named_in : Named → TreeValue → Option TypedValue
named_in names tree =
    option_and_then (λ n. where_it (is_named names n) (Int n)) (option_and_then integer_in (contents_in tree))

abbrev pub bit_string_in : Bounds → TreeValue → Option TypedValue
bit_string_in sizes tree =
    option_and_then (λ (bits : List ℕ × ℕ).
    where_it (allowed_size sizes (bit_count bits.0 bits.1)) (Bits bits.0 bits.1))
    (bits_in tree)

abbrev pub octet_string_in : Bounds → TreeValue → Option TypedValue
octet_string_in sizes tree =
    option_and_then (λ octets. where_it (allowed_size sizes (length octets)) (Octets octets)) (octets_in tree)

abbrev pub identifier_in : TreeValue → Option TypedValue
identifier_in tree = option_map Identifier (option_and_then oid_in (contents_in tree))

abbrev pub text_in : Charset → Bounds → TreeValue → Option TypedValue
text_in charset sizes tree =
    option_and_then (λ octets.
    where_it (list_all (has_character charset) octets && allowed_size sizes (length octets)) (Text octets))
    (octets_in tree)

abbrev pub time_in : TreeValue → Option TypedValue
time_in tree = option_and_then (λ octets. where_it (is_time octets) (Time octets)) (octets_in tree)
