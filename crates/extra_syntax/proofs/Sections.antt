-- Which of the two sections comes: the first word tells.
use Rattle.std.proofs.Common.{◌≡◌, ℕ, ◌≤◌, true, false, ◌||◌, List, refl, slice_get, codes}
use Rattle.token_grammar.specs.declared.token.Token.{Token}
use Rattle.token_grammar.specs.Form.{Named}
use Rattle.token_grammar.specs.Spelling.{passes}
use Rattle.token_grammar.specs.Outcome.{Stops, closed}
use Rattle.token_grammar.specs.TokenTests.{is_word_of}
use Rattle.token_grammar.proofs.Clauses.{stops_by}
use Rattle.token_grammar.proofs.Heads.{heads_unknown, skips, starts, stops_unless, unknown}
use Rattle.token_grammar.proofs.Known.{at_word}
use Rattle.token_grammar.proofs.Parts.{one_word}
use Rattle.token_grammar.proofs.Sequences.{stops_named}
use Rattle.extra_syntax.specs.SectionForms.{instance_sections, instances_form, rule_sections, rules_form, sections}

pub instances_stop : {tokens : List Token} {i k : ℕ} → passes (is_word_of (codes "RULES")) (slice_get tokens i) ≡ true →
    i ≤ k → Stops tokens sections closed (Named instance_sections) i k
instances_stop here order = stops_named instance_sections
    (stops_by unknown heads_unknown instances_form order (record { passed = here })
    (at_word (codes "RULES") false (λ t. starts unknown instances_form t || skips unknown instances_form) (λ at. refl)))

pub rules_stop : {tokens : List Token} {i k : ℕ} → passes (is_word_of (codes "RULES"))
    (slice_get tokens i) ≡ false → i ≤
    k → Stops tokens sections closed (Named rule_sections) i k
rules_stop {tokens} {i} {k} fails order = stops_named rule_sections
    (stops_unless unknown heads_unknown (is_word_of (codes "RULES")) rules_form i k order refl
    (λ t e. one_word (is_word_of (codes "RULES") t) e) fails)
