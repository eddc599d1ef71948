-- Laws on the value of a property: the words DERIVATION RULE tell a rule from the name of a value.
use Rattle.std.proofs.Common.{◌≡◌, ℕ, ◌+◌, ◌≤◌, Bool, true, false, ◌&&◌, List, [], ◌∷◌, Some, refl, slice_get, codes}
use Rattle.token_grammar.specs.declared.token.Token.{Token}
use Rattle.token_grammar.specs.Form.{Form, Then, Marks}
use Rattle.token_grammar.specs.Spelling.{passes}
use Rattle.token_grammar.specs.Beginning as B
use Rattle.token_grammar.specs.Beginning.{Begins}
use Rattle.token_grammar.specs.Outcome.{Stops}
use Rattle.token_grammar.specs.TokenTests.{is_name, is_word_of, is_sign_of}
use Rattle.token_grammar.specs.Parts.{words, qualified_name}
use Rattle.token_grammar.proofs.Heads.{stops_unless, passes_wider}
use Rattle.token_grammar.proofs.Sequences.{apart_closed, passes_false, fault_front, fault_rest, stops_later}
use Rattle.token_grammar.proofs.Sequences.{stops_wider}
use Rattle.token_grammar.proofs.Tokens.{keep_spelt, marks_fault}
use Rattle.token_grammar.proofs.Known.{at_word, first_so, second_so}
use Rattle.token_grammar.proofs.Parts.{token_there}
use Rattle.token_grammar.proofs.Clauses.{first_word_begins, second_word_stops}
use Rattle.gdmo_members.specs.Clauses.{behaviours, reference}
use Rattle.gdmo_members.specs.Templates.{templates}
use Rattle.gdmo_members.proofs.FirstTokens.{labels, labels_lead}

abbrev pub rule_value : Form
rule_value = Then (Marks (words (codes "DERIVATION" ∷ codes "RULE" ∷ []))) (reference behaviours)

-- the words DERIVATION RULE stand at a place
abbrev pub is_rule : List Token → ℕ → Bool
is_rule tokens i = passes (is_word_of (codes "DERIVATION")) (slice_get tokens i) && passes (is_word_of (codes "RULE"))
    (slice_get tokens (i + 1))

name_there : (tokens : List Token) (i : ℕ) → passes (is_word_of (codes "DERIVATION")) (slice_get tokens i) ≡ true
    → passes is_name (slice_get tokens i) ≡ true
name_there tokens i here =
    passes_wider (is_word_of (codes "DERIVATION")) is_name (slice_get tokens i)
    (at_word (codes "DERIVATION") true is_name (λ at. refl)) here

-- where a rule comes, no name of a value goes further
pub value_stops : (tokens : List Token) (i : ℕ) {k : ℕ} → is_rule tokens i ≡ true
    → ((m : ℕ) → Begins tokens templates rule_value i m → m ≤ k)
    → Stops tokens templates (is_word_of (codes "BEHAVIOUR")) qualified_name i k
value_stops tokens i {k} comes most = go (token_there tokens i is_name (name_there tokens i here))
  where
    here : passes (is_word_of (codes "DERIVATION")) (slice_get tokens i) ≡ true
    here = first_so (passes (is_word_of (codes "DERIVATION")) (slice_get tokens i))
        (passes (is_word_of (codes "RULE")) (slice_get tokens (i + 1))) comes

    no_point : passes (is_sign_of (codes ".")) (slice_get tokens (i + 1)) ≡ false
    no_point = passes_false (is_word_of (codes "RULE")) (is_sign_of (codes ".")) (slice_get tokens (i + 1))
        (at_word (codes "RULE") false (is_sign_of (codes ".")) (λ at. refl))
        (second_so (passes (is_word_of (codes "DERIVATION")) (slice_get tokens i))
        (passes (is_word_of (codes "RULE")) (slice_get tokens (i + 1))) comes)

    go : (t : Token) × (slice_get tokens i ≡ Some t) × (is_name t ≡ true)
        → Stops tokens templates (is_word_of (codes "BEHAVIOUR")) qualified_name i k
    go there = stops_wider (is_word_of (codes "BEHAVIOUR"))
        (stops_later (most (i + 1) (first_word_begins here))
        (fault_rest (keep_spelt there.1 there.2) apart_closed (fault_front apart_closed (marks_fault no_point))).stops)

-- where none comes, no rule goes further than the name of a value
pub rule_stops : (tokens : List Token) (i : ℕ) {k : ℕ} → is_rule tokens i ≡ false
    → ((m : ℕ) → Begins tokens templates qualified_name i m → m ≤ k)
    → Stops tokens templates (is_word_of (codes "BEHAVIOUR")) rule_value i k
rule_stops tokens i {k} other most = go (passes (is_word_of (codes "DERIVATION")) (slice_get tokens i)) refl other
  where
    go : (b : Bool) → passes (is_word_of (codes "DERIVATION")) (slice_get tokens i) ≡ b
        → (b && passes (is_word_of (codes "RULE")) (slice_get tokens (i + 1))) ≡ false
        → Stops tokens templates (is_word_of (codes "BEHAVIOUR")) rule_value i k
    go true here e = stops_wider (is_word_of (codes "BEHAVIOUR"))
        (second_word_stops here e
        (most (i + 1) (B.front (B.token (record { passed = name_there tokens i here }) refl))))
    go false here e = stops_unless labels labels_lead (is_word_of (codes "DERIVATION")) rule_value i k
        (most i B.no_tokens) refl (λ t h. h) here
