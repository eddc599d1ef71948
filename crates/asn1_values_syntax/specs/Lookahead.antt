-- Lookahead: by which tokens behind a brace an object identifier is told from a list of parts (X.680, section
-- 32.3).
use Rattle.std.specs.Prelude.{ℕ, ◌+◌, Bool, List, ◌&&◌, ◌||◌, slice_get, codes}
use Rattle.token_grammar.specs.declared.token.Token.{Token}
use Rattle.token_grammar.specs.Spelling.{passes}
use Rattle.token_grammar.specs.TokenTests.{is_name, is_number, is_arc_start, is_sign_of}

-- a number with an arc behind it
abbrev pub is_number_before_arc : List Token → ℕ → Bool
is_number_before_arc tokens i = passes is_number (slice_get tokens i) && passes is_arc_start
    (slice_get tokens (i + 1))

-- a name with a parenthesis behind it
abbrev pub is_name_before_parenthesis : List Token → ℕ → Bool
is_name_before_parenthesis tokens i = passes is_name (slice_get tokens i) && passes (is_sign_of (codes "("))
    (slice_get tokens (i + 1))

abbrev pub starts_arcs : List Token → ℕ → Bool
starts_arcs tokens i = is_number_before_arc tokens i || is_name_before_parenthesis tokens i

-- such arcs behind a name
abbrev pub starts_named_arcs : List Token → ℕ → Bool
starts_named_arcs tokens i = passes is_name (slice_get tokens i) && starts_arcs tokens (i + 1)
