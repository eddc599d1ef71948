-- Laws on the six templates, which begin alike: the words behind the label part them.
use Rattle.std.proofs.Common.{◌≡◌, ℕ, ◌+◌, ◌≤◌, Bool, true, false, ◌&&◌, ◌||◌, List, Some, refl, arith, slice_get}
use Rattle.std.proofs.Common.{codes}
use Rattle.token_grammar.specs.declared.token.Token.{Token}
use Rattle.token_grammar.specs.Form.{Then, AnyOrder, Named}
use Rattle.token_grammar.specs.Spelling.{At, passes}
use Rattle.token_grammar.specs.Beginning as B
use Rattle.token_grammar.specs.Beginning.{Begins}
use Rattle.token_grammar.specs.Outcome.{closed, Stops}
use Rattle.token_grammar.specs.TokenTests.{is_label, is_word_of}
use Rattle.token_grammar.proofs.Heads.{starts, skips}
use Rattle.token_grammar.proofs.Sequences.{apart_closed, fault_front, fault_rest, stops_later, stops_named}
use Rattle.token_grammar.proofs.Tokens.{keep_spelt, mark_spelt, marks_fault, marks_rest_fault}
use Rattle.token_grammar.proofs.Known.{at_word, first_so, second_so}
use Rattle.token_grammar.proofs.Parts.{token_there}
use Rattle.token_grammar.proofs.Clauses.{stops_by}
use Rattle.token_grammar.proofs.References.{is_template, fault_here}
use Rattle.gdmo_members.specs.Clauses.{attributes, groups, ending}
use Rattle.gdmo_members.specs.Templates.{templates, attribute_clauses}
use Rattle.gdmo_members.proofs.FirstTokens.{labels, labels_lead}

pub third_not : (a b c : Bool) → (a && (b && c)) ≡ false → (a && b) ≡ true → c ≡ false
third_not true true c e f = e
third_not true false c e f = absurd (cc f)
third_not false b c e f = absurd (cc f)

-- Where an attribute's template comes, and GROUP isn't the third token, no group's template goes further.
pub group_not : (tokens : List Token) (i : ℕ) {k : ℕ} → is_template tokens i (is_word_of (codes "ATTRIBUTE")) ≡ true
    → passes (is_word_of (codes "GROUP")) (slice_get tokens (i + 1 + 1)) ≡ false
    → ((m : ℕ) → Begins tokens templates (Named attributes) i m → m ≤ k)
    → Stops tokens templates closed (Named groups) i k
group_not tokens i {k} comes other most =
    go (token_there tokens i is_label
    (first_so (passes is_label (slice_get tokens i))
    (passes (is_word_of (codes "ATTRIBUTE")) (slice_get tokens (i + 1))) comes))
  where
    here : At tokens (i + 1) (is_word_of (codes "ATTRIBUTE"))
    here = record {
      passed =
          second_so (passes is_label (slice_get tokens i))
          (passes (is_word_of (codes "ATTRIBUTE")) (slice_get tokens (i + 1))) comes;
    }

    go : (t : Token) × (slice_get tokens i ≡ Some t) × (is_label t ≡ true)
        → Stops tokens templates closed (Named groups) i k
    go there = stops_named groups
        (stops_later (most (i + 1 + 1)
        (B.named (B.rest (keep_spelt there.1 there.2).spelt (B.front (B.mark here B.no_tokens)))))
        (fault_rest (keep_spelt there.1 there.2) apart_closed
        (fault_front apart_closed (marks_rest_fault here (marks_fault other)))).stops)

-- Where a group's template comes, no attribute's template goes further.
pub attribute_not : (tokens : List Token) (i : ℕ) {k : ℕ}
    → (passes is_label (slice_get tokens i)
    && (passes (is_word_of (codes "ATTRIBUTE")) (slice_get tokens (i + 1)) && passes (is_word_of (codes "GROUP"))
    (slice_get tokens (i + 1 + 1)))) ≡ true → ((m : ℕ) → Begins tokens templates (Named groups) i m → m ≤ k)
    → Stops tokens templates closed (Named attributes) i k
attribute_not tokens i {k} comes most =
    go (token_there tokens i is_label
    (first_so (passes is_label (slice_get tokens i))
    (passes (is_word_of (codes "ATTRIBUTE")) (slice_get tokens (i + 1)) && passes (is_word_of (codes "GROUP"))
    (slice_get tokens (i + 1 + 1))) comes))
  where
    both : (passes (is_word_of (codes "ATTRIBUTE")) (slice_get tokens (i + 1)) && passes (is_word_of (codes "GROUP"))
        (slice_get tokens (i + 1 + 1))) ≡ true
    both = second_so (passes is_label (slice_get tokens i))
        (passes (is_word_of (codes "ATTRIBUTE")) (slice_get tokens (i + 1)) && passes (is_word_of (codes "GROUP"))
        (slice_get tokens (i + 1 + 1))) comes

    here : passes (is_word_of (codes "ATTRIBUTE")) (slice_get tokens (i + 1)) ≡ true
    here = first_so (passes (is_word_of (codes "ATTRIBUTE")) (slice_get tokens (i + 1)))
        (passes (is_word_of (codes "GROUP")) (slice_get tokens (i + 1 + 1))) both

    third : At tokens (i + 1 + 1) (is_word_of (codes "GROUP"))
    third = record {
      passed = second_so (passes (is_word_of (codes "ATTRIBUTE")) (slice_get tokens (i + 1)))
          (passes (is_word_of (codes "GROUP")) (slice_get tokens (i + 1 + 1))) both;
    }

    go : (t : Token) × (slice_get tokens i ≡ Some t) × (is_label t ≡ true)
        → Stops tokens templates closed (Named attributes) i k
    go there = stops_named attributes
        (stops_later (most (i + 1 + 1)
        (B.named (B.rest (keep_spelt there.1 there.2).spelt (B.front (B.mark (record { passed = here }) B.no_tokens)))))
        (fault_rest (keep_spelt there.1 there.2) apart_closed
        (fault_rest (mark_spelt here) apart_closed
        (fault_here (stops_by labels labels_lead (Then (AnyOrder attribute_clauses) ending) (omega arith) third
        (at_word (codes "GROUP") false
        (λ t. starts labels (Then (AnyOrder attribute_clauses) ending) t || skips labels
        (Then (AnyOrder attribute_clauses) ending)) (λ at. refl)))))).stops)

-- A label and the two words of a group's template are a label and the first of them.
pub pair_template : (tokens : List Token) (i : ℕ)
    → (passes is_label (slice_get tokens i)
    && (passes (is_word_of (codes "ATTRIBUTE")) (slice_get tokens (i + 1)) && passes (is_word_of (codes "GROUP"))
    (slice_get tokens (i + 1 + 1)))) ≡ true → is_template tokens i (is_word_of (codes "ATTRIBUTE")) ≡ true
pair_template tokens i comes =
    shorter (passes is_label (slice_get tokens i)) (passes (is_word_of (codes "ATTRIBUTE")) (slice_get tokens (i + 1)))
    (passes (is_word_of (codes "GROUP")) (slice_get tokens (i + 1 + 1))) comes
  where
    shorter : (a b c : Bool) → (a && (b && c)) ≡ true → (a && b) ≡ true
    shorter true true c e = refl
    shorter true false c e = absurd (cc e)
    shorter false b c e = absurd (cc e)
