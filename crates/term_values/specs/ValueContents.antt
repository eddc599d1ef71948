-- The contents octets of values that hold no others, in their one form: X.690, sections 8 and 10.2, and 11.1. A value
-- of another form has none.
use Rattle.std.specs.Prelude.{ℕ, List, [], ◌∷◌, true, false}
use Rattle.term_values.specs.Octets.{integer_contents}
use Rattle.term_values.specs.Oid.{oid_contents}
use Rattle.term_values.specs.Typed.{TypedValue, TypedSlots, TypedValues}
use Rattle.term_values.specs.Typed.TypedValue.{Truth, Int, Bits, Octets, Identifier, Text, Time, Parts, Many, Pick, Raw}
use Rattle.term_values.specs.Typed.TypedValues.{Nothing, Then}

abbrev pub truth_contents : TypedValue → List ℕ
truth_contents (Truth true) = 255 ∷ []
truth_contents (Truth false) = 0 ∷ []
truth_contents _ = []

abbrev pub whole_contents : TypedValue → List ℕ
whole_contents (Int n) = integer_contents n
whole_contents _ = []

abbrev pub bits_contents : TypedValue → List ℕ
bits_contents (Bits octets unused) = unused ∷ octets
bits_contents _ = []

abbrev pub octets_contents : TypedValue → List ℕ
octets_contents (Octets octets) = octets
octets_contents _ = []

abbrev pub identifier_contents : TypedValue → List ℕ
identifier_contents (Identifier arcs) = oid_contents arcs
identifier_contents _ = []

abbrev pub text_contents : TypedValue → List ℕ
text_contents (Text octets) = octets
text_contents _ = []

abbrev pub time_contents : TypedValue → List ℕ
time_contents (Time octets) = octets
time_contents _ = []

-- the octets of one value, its tag among them
abbrev pub raw_octets : TypedValue → List ℕ
raw_octets (Raw octets) = octets
raw_octets _ = []

-- the encodings of components
abbrev pub of_parts : (TypedSlots → List (List ℕ)) → TypedValue → List (List ℕ)
of_parts encodings (Parts slots) = encodings slots
of_parts encodings _ = []

abbrev pub member_encodings : (TypedValue → List ℕ) → TypedValues → List (List ℕ)
member_encodings encoding Nothing = []
member_encodings encoding (Then x xs) = encoding x ∷ member_encodings encoding xs

-- the encodings of members
abbrev pub of_members : (TypedValue → List ℕ) → TypedValue → List (List ℕ)
of_members encoding (Many members) = member_encodings encoding members
of_members encoding _ = []

abbrev pub of_pick : (ℕ → TypedValue → List ℕ) → TypedValue → List ℕ
of_pick encoding (Pick index value) = encoding index value
of_pick encoding _ = []
