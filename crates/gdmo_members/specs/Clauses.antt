-- Clauses: parts that several templates have (X.722, section 8.2; docs/PROFILE.md, section 2).
use Rattle.std.specs.Prelude.{ℕ, Bool, List, [], ◌∷◌, ◌||◌, codes}
use Rattle.token_grammar.specs.declared.token.Token.{Token}
use Rattle.token_grammar.specs.Form.{Form, Marks, Keep, Then, Or, Maybe, Listed, Many, Named, Empty}
use Rattle.token_grammar.specs.TokenTests.{is_sign_of, is_one_of, is_word}
use Rattle.token_grammar.specs.Parts.{words, sign, label_reference, object_identifier}

-- the numbers of the templates in the table
abbrev pub behaviours : ℕ
behaviours = 0

abbrev pub attributes : ℕ
attributes = 1

abbrev pub parameters : ℕ
parameters = 2

abbrev pub groups : ℕ
groups = 3

abbrev pub actions : ℕ
actions = 4

abbrev pub notifications : ℕ
notifications = 5

abbrev pub packages : ℕ
packages = 6

abbrev pub classes : ℕ
classes = 7

abbrev pub name_bindings : ℕ
name_bindings = 8

abbrev pub semicolon : Form
semicolon = sign (codes ";")

abbrev pub comma : Token → Bool
comma = is_sign_of (codes ",")

-- keywords, a part, and a semicolon
abbrev pub clause : List (List ℕ) → Form → Form
clause texts f = Then (Marks (words texts)) (Then f semicolon)

-- a keyword that is kept, and a semicolon; and the same behind other keywords
abbrev pub word_clause : List ℕ → Form
word_clause text = Then (Keep (is_one_of (text ∷ []))) semicolon

abbrev pub flag : List (List ℕ) → List ℕ → Form
flag texts text = Then (Marks (words texts)) (word_clause text)

-- `ref`: a label, or in its place a template in line
abbrev pub reference : ℕ → Form
reference n = Or label_reference (Named n)

-- `ref, ..`: one or more references with commas
abbrev pub references : ℕ → Form
references n = Listed comma Empty (reference n)

-- `refs`: none or more references with nothing between them
abbrev pub reference_row : ℕ → Form
reference_row n = Many Empty (reference n)

-- the clause `BEHAVIOUR ref, ..;`, which may stand in every template but those of classes, groups and
-- behaviours
abbrev pub behaviour_clause : Form
behaviour_clause = clause (codes "BEHAVIOUR" ∷ []) (references behaviours)

-- the clause `PARAMETERS ref, ..;`
abbrev pub parameters_clause : Form
parameters_clause = clause (codes "PARAMETERS" ∷ []) (references parameters)

-- `reg`: `REGISTERED AS oid`
abbrev pub registration : Form
registration = Then (Marks (words (codes "REGISTERED" ∷ codes "AS" ∷ []))) object_identifier

-- the end of a template: `[reg];` or `reg;`
abbrev pub ending : Form
ending = Then (Maybe registration) semicolon

abbrev pub registered_ending : Form
registered_ending = Then registration semicolon

-- a further word of a context, with a point before it or none
abbrev pub context_word : Form
context_word = Then (Maybe (Keep (is_sign_of (codes ".")))) (Keep is_word)

-- `context`: words with at most one point between each two
abbrev pub context : Form
context = Then (Keep is_word) (Many Empty context_word)

-- a matching rule
abbrev pub matching_rule : Form
matching_rule = Keep (is_one_of
    (codes "EQUALITY" ∷ codes "ORDERING" ∷ codes "SUBSTRINGS" ∷ codes "SET-COMPARISON" ∷ codes "SET-INTERSECTION" ∷ []))

-- what a further word of a context begins with
abbrev pub is_context_start : Token → Bool
is_context_start token = is_sign_of (codes ".") token || is_word token
