use Rattle.std.proofs.Common.{ℕ, map, drop}
use Rattle.token_grammar.specs.Form.{Form, Marks}
use Rattle.token_grammar.specs.Outcome.{closed}
use Rattle.token_grammar.specs.TokenTests.{is_word_of}
use Rattle.token_grammar.proofs.Turns.{Leads}
use Rattle.token_grammar.proofs.token_reading.skip_words.Given as goal

-- the words from the next one on are left to be read
abbrev pub invariant-loop-word : goal.invariant-loop-word
invariant-loop-word l = (grammar : ℕ → Form)
    → Leads l.tokens grammar closed (Marks (map (λ word. is_word_of word.now) l.words)) l.at
    (Marks (map (λ word. is_word_of word.now) (drop l.word-index l.words))) l.next
