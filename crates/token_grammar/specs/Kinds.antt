-- Kinds: the number of each kind of token (X.722, section 8.2; X.680, section 12; docs/PROFILE.md, section 1).
use Rattle.std.specs.Prelude.{ℕ}

-- a letter, and letters, digits, solidi and single hyphens behind it
abbrev pub word_kind : ℕ
word_kind = 0

-- decimal digits
abbrev pub number_kind : ℕ
number_kind = 1

-- what stands between two equal delimiters
abbrev pub string_kind : ℕ
string_kind = 2

-- `'..'H`
abbrev pub hexadecimal_kind : ℕ
hexadecimal_kind = 3

-- `'..'B`
abbrev pub binary_kind : ℕ
binary_kind = 4

-- `::=`, `..`, or a sign of one octet
abbrev pub sign_kind : ℕ
sign_kind = 5
