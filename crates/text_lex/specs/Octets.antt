-- The octets of a document by what they begin: X.722, section 8.2; X.680, section 12.
use Rattle.std.specs.Prelude.{ℕ, Bool, List, [], ◌∷◌, ◌==◌, ◌||◌, ◌&&◌, if◌then◌else◌, codes}
use Rattle.std.specs.Char.{is_ascii_alphabetic, is_ascii_alphanumeric}
use Rattle.std.specs.List.{list_any}
use Rattle.text_lex.specs.declared.lexing_octets.Start.{Start}
use Rattle.text_lex.specs.declared.lexing_octets.Start.TheVariants.{Blank, Delimiter, Letter, Digit, Apostrophe, Sign}
use Rattle.text_lex.specs.declared.lexing_octets.Start.TheVariants.{Nothing}

abbrev pub line_feed_octet : ℕ
line_feed_octet = 10

abbrev pub quotation_octet : ℕ
quotation_octet = 34

abbrev pub apostrophe_octet : ℕ
apostrophe_octet = 39

abbrev pub hyphen_octet : ℕ
hyphen_octet = 45

abbrev pub full_stop_octet : ℕ
full_stop_octet = 46

abbrev pub solidus_octet : ℕ
solidus_octet = 47

abbrev pub colon_octet : ℕ
colon_octet = 58

abbrev pub equals_octet : ℕ
equals_octet = 61

-- the letters B and H behind a binary and a hexadecimal string
abbrev pub binary_suffix : ℕ
binary_suffix = 66

abbrev pub hexadecimal_suffix : ℕ
hexadecimal_suffix = 72

-- tab, line feed, carriage return and space
abbrev pub blank_octets : List ℕ
blank_octets = 9 ∷ (10 ∷ (13 ∷ (32 ∷ [])))

-- the signs that are a token of one octet
abbrev pub sign_octets : List ℕ
sign_octets = codes ";,:.{}()[]=|-"

-- the delimiters of a string behind the words that announce one
abbrev pub delimiter_octets : List ℕ
delimiter_octets = codes "!\"#$%^&*'~?@\\`"

abbrev pub decimal_digits : List ℕ
decimal_digits = codes "0123456789"

abbrev pub hexadecimal_digits : List ℕ
hexadecimal_digits = codes "0123456789ABCDEF"

abbrev pub binary_digits : List ℕ
binary_digits = codes "01"

unfoldable pub is_one_of : List ℕ → ℕ → Bool
is_one_of octets octet = list_any (λ one. one == octet) octets

-- behind the words that announce a string any delimiter opens one; the quotation mark does so everywhere
unfoldable pub start_of : Bool → ℕ → Start
start_of announced octet =
    if is_one_of blank_octets octet then Blank
    else (if octet == quotation_octet then Delimiter
    else (if announced && is_one_of delimiter_octets octet then Delimiter
    else (if is_ascii_alphabetic octet then Letter
    else (if is_one_of decimal_digits octet then Digit
    else (if octet == apostrophe_octet then Apostrophe
    else (if is_one_of sign_octets octet then Sign
    else Nothing))))))

-- a letter, a digit or a solidus: what stands in words beside the hyphen
unfoldable pub is_word_octet : ℕ → Bool
is_word_octet octet = is_ascii_alphanumeric octet || (octet == solidus_octet)
