-- Lines: the lines of faults, counted from 1 by the line feeds before them (docs/PROFILE.md, section 2).
use Rattle.std.specs.Prelude.{ℕ, ◌+◌, ◌-◌, ◌==◌, List, Option, None, Some, count_by, length, min, slice_get, take}
use Rattle.std.specs.Global.{Vec}
use Rattle.token_grammar.specs.declared.token.Token.{Token}
use Rattle.document_parts.specs.declared.documents.Doc.{Doc}

-- the line of a place in a text; the place behind its end is on the line behind its last line feed
abbrev pub line_of_place : List ℕ → ℕ → ℕ
line_of_place text place = count_by (λ octet. octet == 10) (take place text) + 1

-- it is told in 32 bits: a later line than the last that these hold is told as that one
abbrev pub told_line : List ℕ → ℕ → ℕ
told_line text place = min (line_of_place text place) 4294967295

-- the document with a number, counted from 1
abbrev pub numbered : {X : Type 0} → List X → ℕ → Option X
numbered xs document = slice_get xs (document - 1)

-- the line of a place in the document with a number
abbrev pub line_in : Option Doc → ℕ → ℕ
line_in None place = 1
line_in (Some x) place = told_line x.bytes.items place

abbrev pub line_at : List Doc → ℕ → ℕ → ℕ
line_at docs document place = line_in (numbered docs document) place

-- the line of the token at an index of a document's tokens; where the tokens end too early, that of the document's end
abbrev pub line_of_token : List ℕ → Option Token → ℕ
line_of_token text None = told_line text (length text)
line_of_token text (Some token) = told_line text token.at

abbrev pub line_among : Option Doc → Option (Vec Token) → ℕ → ℕ
line_among None tokens token = 1
line_among (Some x) None token = told_line x.bytes.items (length x.bytes.items)
line_among (Some x) (Some tokens) token = line_of_token x.bytes.items (slice_get tokens.items token)

abbrev pub line_at_token : List Doc → List (Vec Token) → ℕ → ℕ → ℕ
line_at_token docs lists document token = line_among (numbered docs document) (numbered lists document) token
