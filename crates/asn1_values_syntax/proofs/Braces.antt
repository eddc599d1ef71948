-- Laws on braces: an object identifier is told from a list of parts by what stands behind the brace, and where
-- one of them is read the other one goes no further.
use Rattle.std.proofs.Common.{◌≡◌, ℕ, ◌+◌, ◌≤◌, Bool, true, false, ◌&&◌, ◌||◌, List, Option, None, Some, ◌⊎◌, inl, inr}
use Rattle.std.proofs.Common.{refl, arith, slice_get, codes}
use Rattle.token_grammar.specs.declared.token.Token.{Token}
use Rattle.token_grammar.specs.Form.{Tree, Keep, Then, Named}
use Rattle.token_grammar.specs.Spelling.{passes}
use Rattle.token_grammar.specs.Beginning as B
use Rattle.token_grammar.specs.Beginning.{Begins}
use Rattle.token_grammar.specs.Outcome.{closed, Stops, IsFault, IsSpelt}
use Rattle.token_grammar.specs.TokenTests.{is_arc_start, is_name, is_number, is_sign_of}
use Rattle.token_grammar.specs.Parts.{sign}
use Rattle.token_grammar.proofs.Known.{at_name, at_number, at_sign, first_so, second_so, token_of}
use Rattle.token_grammar.proofs.Sequences.{Apart, apart_by, apart_closed, passes_false, spelt_then, spelt_first}
use Rattle.token_grammar.proofs.Sequences.{spelt_second, spelt_wider, stops_later, fault_rest}
use Rattle.token_grammar.proofs.Tokens.{marks_fault}
use Rattle.token_grammar.proofs.Turns.{Separates, list_ends}
use Rattle.token_grammar.proofs.Parts.{separates_by}
use Rattle.token_grammar.proofs.References.{fault_here}
use Rattle.token_grammar.proofs.Heads.{starts}
use Rattle.asn1_values_syntax.specs.Asn1.{asn1}
use Rattle.asn1_values_syntax.specs.Lookahead.{is_name_before_parenthesis, is_number_before_arc, starts_arcs}
use Rattle.asn1_values_syntax.specs.ValueForms.{values, arcs_end, colon, comma, is_literal, is_part_end, is_parts_end}
use Rattle.asn1_values_syntax.specs.ValueForms.{is_value_start, minus, part, parts_end}
use Rattle.asn1_values_syntax.proofs.FirstTokens.{firsts, firsts_lead, quiet_number, quiet_sign}
use Rattle.asn1_values_syntax.proofs.Cases.{either_case, literal_case, one_of_both, value_case}
use Rattle.asn1_values_syntax.proofs.Values.{name_there, name_value, name_value_stops, no_named_part, number_value}

-- a test that no token passes with which a value, or what follows one, begins
value_stop : (test : Token → Bool) → ((t : Token) → is_literal t ≡ true → test t ≡ false) →
    ((at : ℕ) → test (token_of 5 at (codes "-")) ≡ false) → ((at : ℕ) (text : List ℕ) → test (token_of 1 at text) ≡
    false) → ((at : ℕ) (text : List ℕ) → test (token_of 0 at text) ≡ false) →
    ((at : ℕ) → test (token_of 5 at (codes "{")) ≡ false) → ((at : ℕ) → test (token_of 5 at (codes ":")) ≡ false) →
    (t : Token) → is_part_end t ≡ true → test t ≡ false
value_stop test literals minuses numbers names braces colons = either_case false test
    (at_sign (codes ":") false test colons) (value_case false test literals minuses (at_number false test numbers)
    (at_name false test names) braces)

-- a comma separates parts, and a brace ends them
pub parts_separate : {tokens : List Token} → Separates tokens comma is_part_end is_parts_end
parts_separate = separates_by (value_stop comma (literal_case false comma
    ((λ at. refl), ((λ at. refl), ((λ at. refl), tt))) (λ at text. refl) (λ at text. refl) (λ at text. refl))
    (λ at. refl) (λ at text. refl) (λ at text. refl) (λ at. refl) (λ at. refl))

part_end_no_brace : (t : Token) → is_part_end t ≡ true → is_sign_of (codes "}") t ≡ false
part_end_no_brace = value_stop (is_sign_of (codes "}")) (literal_case false (is_sign_of (codes "}"))
    ((λ at. refl), ((λ at. refl), ((λ at. refl), tt))) (λ at text. refl) (λ at text. refl) (λ at text. refl))
    (λ at. refl) (λ at text. refl) (λ at text. refl) (λ at. refl) (λ at. refl)

pub parts_apart : {tokens : List Token} → Apart tokens asn1 is_parts_end (sign (codes "}"))
parts_apart = apart_by firsts firsts_lead (sign (codes "}")) refl
    (either_case false (starts firsts (sign (codes "}")))
    (at_sign (codes ",") false (starts firsts (sign (codes "}"))) (λ at. refl)) part_end_no_brace)

-- which tokens stand there where arcs do
number_first : (tokens : List Token) (i : ℕ) → is_number_before_arc tokens i ≡ true → passes is_number
    (slice_get tokens i) ≡ true
number_first tokens i e = first_so (passes is_number (slice_get tokens i))
    (passes is_arc_start (slice_get tokens (i + 1))) e

number_second : (tokens : List Token) (i : ℕ) → is_number_before_arc tokens i ≡ true → passes is_arc_start
    (slice_get tokens (i + 1)) ≡ true
number_second tokens i e = second_so (passes is_number (slice_get tokens i))
    (passes is_arc_start (slice_get tokens (i + 1))) e

name_first : (tokens : List Token) (i : ℕ) → is_name_before_parenthesis tokens i ≡ true → passes is_name
    (slice_get tokens i) ≡ true
name_first tokens i e = first_so (passes is_name (slice_get tokens i))
    (passes (is_sign_of (codes "(")) (slice_get tokens (i + 1))) e

name_second : (tokens : List Token) (i : ℕ) → is_name_before_parenthesis tokens i ≡ true → passes
    (is_sign_of (codes "(")) (slice_get tokens (i + 1)) ≡ true
name_second tokens i e = second_so (passes is_name (slice_get tokens i))
    (passes (is_sign_of (codes "(")) (slice_get tokens (i + 1))) e

arc_case : (answer : Bool) (test : Token → Bool) → ((t : Token) → is_number t ≡ true → test t ≡ answer) →
    ((t : Token) → is_name t ≡ true → test t ≡ answer) → (t : Token) → is_arc_start t ≡ true → test t ≡ answer
arc_case answer test one two = either_case {p = is_number} {q = is_name} answer test one two

-- what stands behind the first token of arcs is neither a value's end nor a value
behind_arcs : (tokens : List Token) (i : ℕ) (test : Token → Bool) → starts_arcs tokens i ≡ true →
    ((at : ℕ) (text : List ℕ) → test (token_of 1 at text) ≡ false) →
    ((at : ℕ) (text : List ℕ) → test (token_of 0 at text) ≡ false) →
    ((at : ℕ) → test (token_of 5 at (codes "(")) ≡ false) → passes test (slice_get tokens (i + 1)) ≡ false
behind_arcs tokens i test arcs numbers names parentheses = go (one_of_both (is_number_before_arc tokens i)
    (is_name_before_parenthesis tokens i) arcs)
  where
    go : (is_number_before_arc tokens i ≡ true) ⊎ (is_name_before_parenthesis tokens i ≡ true) → passes test
        (slice_get tokens (i + 1)) ≡ false
    go (inl h) = passes_false is_arc_start test (slice_get tokens (i + 1))
        (arc_case false test (at_number false test numbers) (at_name false test names)) (number_second tokens i h)
    go (inr h) = passes_false (is_sign_of (codes "(")) test (slice_get tokens (i + 1))
        (at_sign (codes "(") false test parentheses) (name_second tokens i h)

parenthesis_no_value : (t : Token) → is_sign_of (codes "(") t ≡ true → is_value_start t ≡ false
parenthesis_no_value = at_sign (codes "(") false is_value_start (λ at. refl)

-- the first token of arcs is a value, and no name of one
arcs_value : {tokens : List Token} {i : ℕ} → starts_arcs tokens i ≡ true → (a : Tree) × IsSpelt tokens asn1 closed
    (Named values) i a (i + 1)
arcs_value {tokens} {i} arcs = go (one_of_both (is_number_before_arc tokens i) (is_name_before_parenthesis tokens i)
    arcs)
  where
    go : (is_number_before_arc tokens i ≡ true) ⊎ (is_name_before_parenthesis tokens i ≡ true) → (a : Tree) × IsSpelt
        tokens asn1 closed (Named values) i a (i + 1)
    go (inl h) = number_value (number_first tokens i h)
    go (inr h) = name_value (name_first tokens i h) (passes_false (is_sign_of (codes "(")) colon
        (slice_get tokens (i + 1)) (at_sign (codes "(") false colon (λ at. refl)) (name_second tokens i h))

arcs_no_part : (tokens : List Token) (i : ℕ) → starts_arcs tokens i ≡ true →
    (passes is_name (slice_get tokens i) && passes is_value_start (slice_get tokens (i + 1))) ≡ false
arcs_no_part tokens i arcs = go (one_of_both (is_number_before_arc tokens i) (is_name_before_parenthesis tokens i)
    arcs)
  where
    left : (a b : Bool) → a ≡ false → (a && b) ≡ false
    left true b e = absurd (cc e)
    left false b e = refl

    right : (a b : Bool) → b ≡ false → (a && b) ≡ false
    right true b e = e
    right false b e = refl

    go : (is_number_before_arc tokens i ≡ true) ⊎ (is_name_before_parenthesis tokens i ≡ true) →
        (passes is_name (slice_get tokens i) && passes is_value_start (slice_get tokens (i + 1))) ≡ false
    go (inl h) = left (passes is_name (slice_get tokens i)) (passes is_value_start (slice_get tokens (i + 1)))
        (passes_false is_number is_name (slice_get tokens i) (at_number false is_name (λ at text. refl))
        (number_first tokens i h))
    go (inr h) = right (passes is_name (slice_get tokens i)) (passes is_value_start (slice_get tokens (i + 1)))
        (passes_false (is_sign_of (codes "(")) is_value_start (slice_get tokens (i + 1)) parenthesis_no_value
        (name_second tokens i h))

-- one part, behind which neither a comma nor a brace stands
part_alone : {tokens : List Token} {i j : ℕ} {a : Tree} → IsSpelt tokens asn1 is_part_end part i a j → passes comma
    (slice_get tokens j) ≡ false → passes (is_sign_of (codes "}")) (slice_get tokens j) ≡ false → IsFault tokens asn1
    closed parts_end i j
part_alone one alone open_now = fault_rest (list_ends parts_separate one alone) parts_apart (marks_fault open_now)

-- Where arcs stand, a list of parts ends behind their first token.
pub parts_before_arcs : {tokens : List Token} {i : ℕ} → starts_arcs tokens i ≡ true → IsFault tokens asn1 closed
    parts_end i (i + 1)
parts_before_arcs {tokens} {i} arcs = part_alone (spelt_second (no_named_part (arcs_no_part tokens i arcs)
    (omega arith)
    (λ e. omega arith)) (spelt_wider is_part_end (arcs_value arcs).1))
    (behind_arcs tokens i comma arcs (λ at text. refl) (λ at text. refl) (λ at. refl))
    (behind_arcs tokens i (is_sign_of (codes "}")) arcs (λ at text. refl) (λ at text. refl) (λ at. refl))

-- arcs begin with a number or a name
pub arcs_begin : {tokens : List Token} {i : ℕ} → starts_arcs tokens i ≡ true → Begins tokens asn1 arcs_end i (i + 1)
arcs_begin {tokens} {i} arcs = go (one_of_both (is_number_before_arc tokens i) (is_name_before_parenthesis tokens i)
    arcs)
  where
    go : (is_number_before_arc tokens i ≡ true) ⊎ (is_name_before_parenthesis tokens i ≡ true) → Begins tokens asn1
        arcs_end i (i + 1)
    go (inl h) = B.front (B.first (B.front (B.token (record { passed = number_first tokens i h }) refl)))
    go (inr h) = B.front (B.second (B.front (B.front (B.token (record { passed = name_first tokens i h }) refl))))

arcs_begin_value : (tokens : List Token) (i : ℕ) → starts_arcs tokens i ≡ true → passes is_value_start
    (slice_get tokens i) ≡ true
arcs_begin_value tokens i arcs = go (one_of_both (is_number_before_arc tokens i) (is_name_before_parenthesis tokens i)
    arcs)
  where
    wide : (p q : Token → Bool) (x : Option Token) → ((t : Token) → p t ≡ true → q t ≡ true) → passes p x ≡ true →
        passes q x ≡ true
    wide p q None all e = absurd (cc e)
    wide p q (Some t) all e = all t e

    number : (a b c : Bool) → (a || ((b || true) || c)) ≡ true
    number true b c = refl
    number false true c = refl
    number false false c = refl

    name : (a b c : Bool) → (a || (b || (true || c))) ≡ true
    name true b c = refl
    name false true c = refl
    name false false c = refl

    go : (is_number_before_arc tokens i ≡ true) ⊎ (is_name_before_parenthesis tokens i ≡ true) → passes is_value_start
        (slice_get tokens i) ≡ true
    go (inl h) = wide is_number is_value_start (slice_get tokens i)
        (λ t e. rw e (number (is_literal t) (minus t) (is_name t || is_sign_of (codes "{") t)))
        (number_first tokens i h)
    go (inr h) = wide is_name is_value_start (slice_get tokens i) (λ t e. rw e
        (name (is_literal t) (minus t || is_number t) (is_sign_of (codes "{") t))) (name_first tokens i h)

-- Where arcs stand behind a name, a list of parts ends behind the first one's token, and arcs without the
-- name end before.
pub parts_before_named_arcs : {tokens : List Token} {i : ℕ} → passes is_name (slice_get tokens i) ≡ true → starts_arcs
    tokens (i + 1) ≡ true → IsFault tokens asn1 closed parts_end i (i + 1 + 1)
parts_before_named_arcs {tokens} {i} here arcs = part_alone (spelt_first
    (spelt_wider is_part_end (spelt_then (name_there here).1 apart_closed (arcs_value arcs).1))
    (name_value_stops here (arcs_begin_value tokens (i + 1) arcs) (omega arith)))
    (behind_arcs tokens (i + 1) comma arcs (λ at text. refl) (λ at text. refl) (λ at. refl))
    (behind_arcs tokens (i + 1) (is_sign_of (codes "}")) arcs (λ at text. refl) (λ at text. refl) (λ at. refl))

pub named_arcs_begin : {tokens : List Token} {i : ℕ} → passes is_name (slice_get tokens i) ≡ true → starts_arcs tokens
    (i + 1) ≡ true → Begins tokens asn1 (Then (Keep is_name) arcs_end) i (i + 1 + 1)
named_arcs_begin here arcs = B.rest (name_there here).1.spelt (arcs_begin arcs)

-- Where arcs stand, no name stands before arcs.
pub no_named_arcs : {tokens : List Token} {i k : ℕ} → starts_arcs tokens i ≡ true → i + 1 ≤ k → Stops tokens asn1
    closed
    (Then (Keep is_name) arcs_end) i k
no_named_arcs {tokens} {i} {k} arcs order = go (one_of_both (is_number_before_arc tokens i)
    (is_name_before_parenthesis tokens i) arcs)
  where
    go : (is_number_before_arc tokens i ≡ true) ⊎ (is_name_before_parenthesis tokens i ≡ true) → Stops tokens asn1
        closed (Then (Keep is_name) arcs_end) i k
    go (inl h) = (quiet_number (Then (Keep is_name) arcs_end) (number_first tokens i h) (λ at text. refl)).stops k
        (omega (arith, order))
    go (inr h) = stops_later order (fault_rest (name_there (name_first tokens i h)).1 apart_closed
        (fault_here ((quiet_sign (codes "(") arcs_end (name_second tokens i h) (λ at. refl)).stops (i + 1)
        (omega arith)))).stops
