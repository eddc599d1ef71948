-- Literals: the numbers and strings that tokens stand for (X.680, sections 12.8, 12.14 and 19.1).
use Rattle.std.specs.Prelude.{ℕ, zero, suc, ◌^◌, List, [], ◌∷◌, Bool, true, false, ◌==◌, ◌&&◌, nat_lt, nat_le, int_le}
use Rattle.std.specs.Prelude.{int_lt, ℤ, pos, negsuc, Option, None, Some, option_map, option_and_then, if◌then◌else◌}
use Rattle.std.specs.Cmp.Lexicographic.{pointwise}
use Rattle.std.specs.List.{list_all}
use Rattle.std.specs.Str.Parse.{digits_value}
use Rattle.term_values.specs.Bounded.{is_digit}
use Rattle.term_values.specs.Syntaxes.{Named}
use Rattle.token_grammar.specs.Kinds.{string_kind}
use Rattle.token_grammar.specs.declared.token.Token.{Token}

-- the number of decimal digits, at least one of them
abbrev pub numeral : List ℕ → Option ℕ
numeral [] = None
numeral (digit ∷ others) =
    if list_all is_digit (digit ∷ others) then Some (digits_value 10 (digit ∷ others)) else None

-- the number with its sign
abbrev pub signed : Bool → ℕ → ℤ
signed false n = pos n
signed true zero = pos zero
signed true (suc n) = negsuc n

-- a whole number of 64 bits
abbrev pub is_whole : ℤ → Bool
is_whole (pos n) = nat_lt n (2 ^ 63)
is_whole (negsuc n) = nat_lt n (2 ^ 63)

abbrev pub where_whole : ℤ → Option ℤ
where_whole n = if is_whole n then Some n else None

-- the number that a sign and digits stand for
abbrev pub number_said : Bool → List ℕ → Option ℤ
number_said minus digits = option_and_then (λ n. where_whole (signed minus n)) (numeral digits)

-- two names are one
abbrev pub same_name : List ℕ → List ℕ → Bool
same_name a b = pointwise ◌==◌ a b

-- the number that a name has, by the first one of that name
abbrev pub named_number : Named → List ℕ → Option ℤ
named_number [] name = None
named_number (first ∷ others) name =
    if same_name first.0 name then where_whole first.1 else named_number others name

-- what stands up to the delimiter that ends a string: a doubled one stands for one, and nothing comes behind the last
abbrev pub undoubled : ℕ → List ℕ → Option (List ℕ)
undoubled delimiter [] = None
undoubled delimiter (x ∷ []) = if x == delimiter then Some [] else None
undoubled delimiter (x ∷ (y ∷ others)) =
    if x == delimiter
    then (if y == delimiter then option_map (λ text. delimiter ∷ text) (undoubled delimiter others) else None)
    else option_map (λ text. x ∷ text) (undoubled delimiter (y ∷ others))

-- the text between the delimiter with which a string begins and the same one at its end
abbrev pub delimited : List ℕ → Option (List ℕ)
delimited [] = None
delimited (delimiter ∷ others) = undoubled delimiter others

abbrev pub string_of : Token → Option (List ℕ)
string_of token = if token.kind == string_kind then delimited token.text else None
