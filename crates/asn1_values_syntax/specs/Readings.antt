-- Readings: what braces say as an object identifier, and what they say as parts (X.680, section 32.3; X.208,
-- sections 17.5, 20.5, 21.3, 22.3 and 23.3). Which of both is meant only the type of the value tells.
use Rattle.std.specs.Prelude.{◌≡◌, ℕ, true, List, ◌⊎◌, slice_get, codes}
use Rattle.token_grammar.specs.declared.token.Token.{Token}
use Rattle.token_grammar.specs.Form.{Form, Tree, Keep, Then, Or, Named, Bare, Leaf, Pair, First, Second, Absent}
use Rattle.token_grammar.specs.Form.{Present, Empty, After, Numbered}
use Rattle.token_grammar.specs.Spelling.{passes, Spells}
use Rattle.token_grammar.specs.Beginning.{Begins}
use Rattle.token_grammar.specs.TokenTests.{is_sign_of}
use Rattle.token_grammar.specs.Parts.{object_identifier, sign}
use Rattle.asn1_values_syntax.specs.ValueForms.{values, parts_end}
use Rattle.asn1_values_syntax.specs.Asn1.{asn1}

-- braces that hold parts or nothing
abbrev pub parts_in_braces : Form
parts_in_braces = Then (Keep (is_sign_of (codes "{"))) (Or (sign (codes "}")) parts_end)

-- the parts of a list, with other parts before them
abbrev pub behind : Tree → Tree → Tree
behind before Bare = before
behind before (Leaf token) = before
behind before (Pair a b) = before
behind before (First a) = before
behind before (Second a) = before
behind before Absent = before
behind before (Present a) = before
behind before Empty = before
behind before (After s a) = After (behind before s) a
behind before (Numbered n a) = before

-- the value of a number, of a name, and of what stands in braces
abbrev pub number_said : Token → Tree
number_said number = Numbered 0 (Second (First (Pair Absent (Leaf number))))

abbrev pub name_said : Token → Tree
name_said name = Numbered 0 (Second (Second (First (Pair (Leaf name) Absent))))

abbrev pub braces_said : Token → Tree → Tree
braces_said brace content = Numbered 0 (Second (Second (Second (Pair (Leaf brace) content))))

-- what stands in braces: one part, arcs that can't be parts, and such arcs behind a name
abbrev pub part_said : Tree → Tree
part_said part = Second (First (Pair (After Empty part) Bare))

abbrev pub sure_said : Tree → Tree
sure_said arcs = Second (Second (First (Pair arcs Bare)))

abbrev pub named_said : Token → Tree → Tree
named_said name arcs = Second (Second (Second (Pair (Leaf name) (Pair arcs Bare))))

-- an object identifier behind its brace: the first arc and the others
abbrev pub arcs_said : Tree → Tree → Tree
arcs_said first others = Pair first (Pair others Bare)

-- what stands in braces, and the object identifier that it says
pub data SaysArcs : Tree → Tree → Type 0 where
  -- {number}, {name} and {name number}, which are lists of one part too
  number : {n : Token} → SaysArcs (part_said (Second (number_said n))) (arcs_said (First (First (Leaf n))) Empty)
  name : {a : Token} → SaysArcs (part_said (Second (name_said a))) (arcs_said (Second (Leaf a)) Empty)
  name_and_number : {a n : Token} → SaysArcs (part_said (First (Pair (Leaf a) (number_said n))))
      (arcs_said (Second (Leaf a)) (After Empty (First (Leaf n))))
  -- {number arc ..} and {name(number) ..}
  numbers : {n : Token} {b s : Tree} → SaysArcs (sure_said (First (Pair (Leaf n) (Pair b s))))
      (arcs_said (First (First (Leaf n))) (behind (After Empty b) s))
  named : {m s : Tree} → SaysArcs (sure_said (Second (Pair m s))) (arcs_said (First (Second m)) s)
  -- {name number arc ..} and {name name(number) ..}
  name_and_numbers : {a n : Token} {b s : Tree} → SaysArcs (named_said a (First (Pair (Leaf n) (Pair b s))))
      (arcs_said (Second (Leaf a)) (behind (After (After Empty (First (Leaf n))) b) s))
  name_and_named : {a : Token} {m s : Tree} → SaysArcs (named_said a (Second (Pair m s)))
      (arcs_said (Second (Leaf a)) (behind (After Empty (Second m)) s))

-- what stands in braces, and the parts that it says
pub data SaysParts : Tree → Tree → Type 0 where
  nothing : SaysParts (First Bare) (First Bare)
  parts : {p : Tree} → SaysParts (Second (First p)) (Second p)

-- Where tokens spell an object identifier, they spell a value that says it.
abbrev pub IdentifiersAreKept : Type 0
IdentifiersAreKept = (tokens : List Token) (i k : ℕ) (brace : Token) (arcs : Tree) → Spells tokens asn1
    object_identifier i k (Pair (Leaf brace) arcs) → (content : Tree) × Spells tokens asn1 (Named values) i k
    (braces_said brace content) × SaysArcs content arcs

-- Where they spell a value that says an object identifier, they spell the object identifier.
abbrev pub IdentifiersAreSpelt : Type 0
IdentifiersAreSpelt = (tokens : List Token) (i k : ℕ) (brace : Token) (content arcs : Tree) → Spells tokens asn1
    (Named values) i k (braces_said brace content) → SaysArcs content arcs → Spells tokens asn1 object_identifier i k
    (Pair (Leaf brace) arcs)

-- The same of parts in braces.
abbrev pub PartsAreKept : Type 0
PartsAreKept = (tokens : List Token) (i k : ℕ) (brace : Token) (parts : Tree) → Spells tokens asn1 parts_in_braces i k
    (Pair (Leaf brace) parts) → (content : Tree) × Spells tokens asn1 (Named values) i k (braces_said brace content) ×
    SaysParts content parts

abbrev pub PartsAreSpelt : Type 0
PartsAreSpelt = (tokens : List Token) (i k : ℕ) (brace : Token) (content parts : Tree) → Spells tokens asn1
    (Named values) i k (braces_said brace content) → SaysParts content parts → Spells tokens asn1 parts_in_braces i k
    (Pair (Leaf brace) parts)

-- Where tokens begin either one they begin a value, and where they begin a value with a brace they begin either
-- one. So the fault of a value is the furthest of both.
abbrev pub IdentifiersBeginValues : Type 0
IdentifiersBeginValues = (tokens : List Token) (i k : ℕ) → Begins tokens asn1 object_identifier i k → Begins tokens
    asn1 (Named values) i k

abbrev pub PartsBeginValues : Type 0
PartsBeginValues = (tokens : List Token) (i k : ℕ) → Begins tokens asn1 parts_in_braces i k → Begins tokens asn1
    (Named values) i k

abbrev pub BracesBeginEither : Type 0
BracesBeginEither = (tokens : List Token) (i k : ℕ) → passes (is_sign_of (codes "{")) (slice_get tokens i) ≡ true →
    Begins tokens asn1 (Named values) i k → Begins tokens asn1 object_identifier i k ⊎ Begins tokens asn1
    parts_in_braces i k
