-- Laws on values of one token, and on parts that have a name before them.
use Rattle.std.proofs.Common.{◌≡◌, ℕ, ◌+◌, ◌≤◌, Bool, true, false, ◌&&◌, ◌||◌, List, Some, ◌⊎◌, inl, inr, refl, arith}
use Rattle.std.proofs.Common.{slice_get, codes}
use Rattle.token_grammar.specs.declared.token.Token.{Token}
use Rattle.token_grammar.specs.declared.syntax_refusal.SyntaxRefusal.{SyntaxRefusal}
use Rattle.token_grammar.specs.Form.{Form, Tree, Keep, Then, Or, Named, Leaf, Pair, First, Second, Absent, Numbered}
use Rattle.token_grammar.specs.Spelling as S
use Rattle.token_grammar.specs.Spelling.{At, passes, Spells}
use Rattle.token_grammar.specs.Beginning as B
use Rattle.token_grammar.specs.Beginning.{Begins}
use Rattle.token_grammar.specs.Outcome.{closed, Stops, IsSpelt, Fails}
use Rattle.token_grammar.specs.TokenTests.{is_name, is_number}
use Rattle.token_grammar.specs.Parts.{sign}
use Rattle.token_grammar.proofs.Heads.{at_wider, or_left, or_right, skips, starts}
use Rattle.token_grammar.proofs.Known.{at_name, at_number, first_so, second_so}
use Rattle.token_grammar.proofs.Sequences.{apart_closed, not_closed, passes_false, spelt_then, spelt_absent}
use Rattle.token_grammar.proofs.Sequences.{spelt_named, spelt_first, spelt_second, spelt_on, spelt_order, stops_later}
use Rattle.token_grammar.proofs.Sequences.{stops_wider, fault_first, fault_second, fault_rest, fails_by, fails_on}
use Rattle.token_grammar.proofs.Tokens.{keep_spelt}
use Rattle.token_grammar.proofs.Parts.{spelt_short, token_there}
use Rattle.token_grammar.proofs.References.{fault_here}
use Rattle.asn1_values_syntax.specs.Asn1.{asn1}
use Rattle.asn1_values_syntax.specs.ValueForms.{values, braces, colon, is_literal, is_part_end, is_value_start, minus}
use Rattle.asn1_values_syntax.specs.ValueForms.{named_value, part, signed_number}
use Rattle.asn1_values_syntax.proofs.Quiet.{Quiet, take_first, take_second}
use Rattle.asn1_values_syntax.proofs.FirstTokens.{firsts, quiet_name, quiet_number, quiet_unless, quiet_when}
use Rattle.asn1_values_syntax.proofs.Cases.{decide, literal_case, not_both, value_case}

-- a name that is there is read
pub name_there : {tokens : List Token} {grammar : ℕ → Form} {i : ℕ} → passes is_name (slice_get tokens i) ≡ true →
    (t : Token) × IsSpelt tokens grammar closed (Keep is_name) i (Leaf t) (i + 1)
name_there {tokens} {grammar} {i} pass = go (token_there tokens i is_name pass)
  where
    go : (t : Token) × (slice_get tokens i ≡ Some t) × (is_name t ≡ true) → (t : Token) × IsSpelt tokens grammar
        closed
        (Keep is_name) i (Leaf t) (i + 1)
    go there = (there.0, keep_spelt there.1 there.2)

-- a token that is there has no fault
pub never_fails : {tokens : List Token} {grammar : ℕ → Form} {on test : Token → Bool} {g : Form} {i j : ℕ}
    {e : SyntaxRefusal} → passes test (slice_get tokens i) ≡ true → Fails tokens grammar closed (Keep test) i e →
    Fails
    tokens grammar on g j e
never_fails {tokens} {grammar} {on} {test} {g} {i} {j} {e} pass r = record
    { fault = λ k is. not_closed ((r.fault k is).stops.unspelt (i + 1) (Leaf there.0) (S.keep there.1 there.2 refl)) }
  where
    there : (t : Token) × (slice_get tokens i ≡ Some t) × (test t ≡ true)
    there = token_there tokens i test pass

-- what no token of one test passes, no token that passes passes the test
pub flip : (p q : Token → Bool) → ((t : Token) → p t ≡ true → q t ≡ false) → (t : Token) → q t ≡ true → p t ≡ false
flip p q never t e = go (decide (p t))
  where
    go : (p t ≡ true) ⊎ (p t ≡ false) → p t ≡ false
    go (inl h) = absurd (let f = never t h in cc (f, e))
    go (inr h) = h

-- no literal is a name or a colon
pub literal_no_name : (t : Token) → is_literal t ≡ true → is_name t ≡ false
literal_no_name = literal_case false is_name ((λ at. refl), ((λ at. refl), ((λ at. refl), tt))) (λ at text. refl)
    (λ at text. refl) (λ at text. refl)

pub name_no_literal : (t : Token) → is_name t ≡ true → is_literal t ≡ false
name_no_literal = flip is_literal is_name literal_no_name

pub value_no_colon : (t : Token) → is_value_start t ≡ true → colon t ≡ false
value_no_colon = value_case false colon (literal_case false colon ((λ at. refl), ((λ at. refl), ((λ at. refl), tt)))
    (λ at text. refl) (λ at text. refl) (λ at text. refl)) (λ at. refl) (at_number false colon (λ at text. refl))
    (at_name false colon (λ at text. refl)) (λ at. refl)

-- no literal stands where a name does
pub literal_quiet : {tokens : List Token} {on : Token → Bool} {i : ℕ} → passes is_name (slice_get tokens i) ≡ true →
    Quiet tokens asn1 on (Keep is_literal) i
literal_quiet {tokens} {on} {i} here = quiet_unless is_literal (Keep is_literal) refl (λ t e. e)
    (passes_false is_name is_literal (slice_get tokens i) name_no_literal here)

-- where a literal stands, no other value does
pub quiet_literal : {tokens : List Token} {on : Token → Bool} {i : ℕ} → passes is_literal (slice_get tokens i) ≡
    true →
    Quiet tokens asn1 on (Or signed_number (Or named_value braces)) i
quiet_literal here = quiet_when (Or signed_number (Or named_value braces)) here
    (literal_case false (λ t. starts firsts (Or signed_number (Or named_value braces)) t || skips firsts
    (Or signed_number (Or named_value braces))) ((λ at. refl), ((λ at. refl), ((λ at. refl), tt))) (λ at text. refl)
    (λ at text. refl) (λ at text. refl))

-- a number and a name are values
pub number_value : {tokens : List Token} {i : ℕ} → passes is_number (slice_get tokens i) ≡ true → (a : Tree) × IsSpelt
    tokens asn1 closed (Named values) i a (i + 1)
number_value {tokens} {i} here = go (token_there tokens i is_number here)
  where
    go : (t : Token) × (slice_get tokens i ≡ Some t) × (is_number t ≡ true) → (a : Tree) × IsSpelt tokens asn1 closed
        (Named values) i a (i + 1)
    go there = (
      Numbered 0 (Second (First (Pair Absent (Leaf there.0)))),
      spelt_named values
          (take_second (quiet_number (Keep is_literal) here (λ at text. refl))
          (take_first (spelt_then (spelt_absent {on = closed} ((quiet_number (Keep minus) here
          (λ at text. refl)).stops i
          (omega arith))) apart_closed (keep_spelt there.1 there.2)) (quiet_number (Or named_value braces) here
          (λ at text. refl)))),
    )

pub name_value : {tokens : List Token} {i : ℕ} → passes is_name (slice_get tokens i) ≡ true → passes colon
    (slice_get tokens (i + 1)) ≡ false → (a : Tree) × IsSpelt tokens asn1 closed (Named values) i a (i + 1)
name_value {tokens} {i} here alone = go (name_there here)
  where
    go : (t : Token) × IsSpelt tokens asn1 closed (Keep is_name) i (Leaf t) (i + 1) → (a : Tree) × IsSpelt tokens asn1
        closed (Named values) i a (i + 1)
    go one = (
      Numbered 0 (Second (Second (First (Pair (Leaf one.0) Absent)))),
      spelt_named values
          (take_second (literal_quiet here) (take_second (quiet_name signed_number here (λ at text. refl))
          (take_first (spelt_then one.1 apart_closed (spelt_absent ((quiet_unless colon
          (Then (sign (codes ":")) (Named values)) refl (λ t e. e) alone).stops (i + 1) (omega arith))))
          (quiet_name braces here (λ at text. refl))))),
    )

-- A name before a value is a value too, which goes no further.
pub name_value_stops : {tokens : List Token} {i k : ℕ} → passes is_name (slice_get tokens i) ≡ true → passes
    is_value_start (slice_get tokens (i + 1)) ≡ true → i + 1 ≤ k → Stops tokens asn1 is_part_end (Named values) i k
name_value_stops {tokens} {i} {k} here behind order = spelt_short (name_value here
    (passes_false is_value_start colon (slice_get tokens (i + 1)) value_no_colon behind)).1
    (at_wider is_part_end (λ t e. or_right (colon t) (is_value_start t) e) (record { passed = behind })) order

-- No part with a name stands where there is no name before a value.
pub no_named_part : {tokens : List Token} {on : Token → Bool} {i k : ℕ} →
    (passes is_name (slice_get tokens i) && passes is_value_start (slice_get tokens (i + 1))) ≡ false → i ≤ k →
    (passes is_name (slice_get tokens i) ≡ true → i + 1 ≤ k) → Stops tokens asn1 on
    (Then (Keep is_name) (Named values))
    i k
no_named_part {tokens} {on} {i} {k} other order past = go (decide (passes is_name (slice_get tokens i)))
  where
    go : (passes is_name (slice_get tokens i) ≡ true) ⊎ (passes is_name (slice_get tokens i) ≡ false) → Stops tokens
        asn1 on (Then (Keep is_name) (Named values)) i k
    go (inl here) = stops_later (past here) (stops_wider on (fault_rest (name_there here).1 apart_closed
        (fault_here ((quiet_unless is_value_start (Named values) refl (λ t e. e)
        (not_both (passes is_name (slice_get tokens i)) (passes is_value_start (slice_get tokens (i + 1))) here
        other)).stops (i + 1) (omega arith)))).stops)
    go (inr none) = (quiet_unless is_name (Then (Keep is_name) (Named values)) refl (λ t e. e) none).stops k order

-- A part with a name before its value, and one without.
colon_wider : {tokens : List Token} (m : ℕ) → At tokens m colon → At tokens m is_part_end
colon_wider m here = at_wider is_part_end (λ t e. or_left (colon t) (is_value_start t) e) here

pub value_wider : {tokens : List Token} {i k : ℕ} {a : Tree} → IsSpelt tokens asn1 colon (Named values) i a k →
    IsSpelt
    tokens asn1 is_part_end (Named values) i a k
value_wider one = spelt_on colon_wider one

pub value_fails_wider : {tokens : List Token} {i : ℕ} {e : SyntaxRefusal} → Fails tokens asn1 colon (Named values) i
    e →
    Fails tokens asn1 is_part_end (Named values) i e
value_fails_wider r = fails_on colon_wider r

pub part_named : {tokens : List Token} {i k : ℕ} {a : Tree} → (passes is_name (slice_get tokens i) && passes
    is_value_start (slice_get tokens (i + 1))) ≡ true → IsSpelt tokens asn1 is_part_end
    (Then (Keep is_name) (Named values)) i a k → IsSpelt tokens asn1 is_part_end part i (First a) k
part_named {tokens} {i} {k} both one = spelt_first one (name_value_stops
    (first_so (passes is_name (slice_get tokens i)) (passes is_value_start (slice_get tokens (i + 1))) both)
    (second_so (passes is_name (slice_get tokens i)) (passes is_value_start (slice_get tokens (i + 1))) both)
    (one.furthest (i + 1) (B.front (B.token (record {
      passed = first_so (passes is_name (slice_get tokens i))
          (passes is_value_start (slice_get tokens (i + 1))) both;
    }) refl))))

pub part_named_fails : {tokens : List Token} {i : ℕ} {e : SyntaxRefusal} →
    (passes is_name (slice_get tokens i) && passes is_value_start (slice_get tokens (i + 1))) ≡ true → Fails tokens
    asn1
    is_part_end (Then (Keep is_name) (Named values)) i e → Fails tokens asn1 is_part_end part i e
part_named_fails {tokens} {i} both r = fails_by (λ k one. fault_first one
    (name_value_stops (first_so (passes is_name (slice_get tokens i))
    (passes is_value_start (slice_get tokens (i + 1)))
    both) (second_so (passes is_name (slice_get tokens i)) (passes is_value_start (slice_get tokens (i + 1))) both)
    (one.stops.furthest (i + 1) (B.front (B.token (record {
      passed = first_so (passes is_name (slice_get tokens i))
          (passes is_value_start (slice_get tokens (i + 1))) both;
    }) refl))))) r

name_begins : {tokens : List Token} {i : ℕ} → passes is_name (slice_get tokens i) ≡ true → Begins tokens asn1
    (Named values) i (i + 1)
name_begins here = B.named (B.second (B.second (B.first (B.front (B.token (record { passed = here }) refl)))))

pub part_unnamed : {tokens : List Token} {i k : ℕ} {a : Tree} → (passes is_name (slice_get tokens i) && passes
    is_value_start (slice_get tokens (i + 1))) ≡ false → IsSpelt tokens asn1 colon (Named values) i a k → IsSpelt
    tokens
    asn1 is_part_end part i (Second a) k
part_unnamed {tokens} {i} other one = spelt_second (no_named_part other (spelt_order one)
    (λ here. one.furthest (i + 1) (name_begins here))) (value_wider one)

pub part_unnamed_fails : {tokens : List Token} {i : ℕ} {e : SyntaxRefusal} →
    (passes is_name (slice_get tokens i) && passes is_value_start (slice_get tokens (i + 1))) ≡ false → Fails tokens
    asn1 colon (Named values) i e → Fails tokens asn1 is_part_end part i e
part_unnamed_fails {tokens} {i} other r = fails_by (λ k one. fault_second
    (no_named_part other one.stops.order (λ here. one.stops.furthest (i + 1) (name_begins here))) one)
    (value_fails_wider r)
