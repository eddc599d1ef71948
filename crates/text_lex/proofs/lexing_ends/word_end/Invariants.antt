-- What is left of a word at each octet is the rest of the whole, both ways.
use Rattle.std.proofs.Common.{ℕ, ◌-◌, ◌≤◌, length}
use Rattle.text_lex.specs.Lexemes.{WordRest}
use Rattle.text_lex.proofs.lexing_ends.word_end.Given as goal

abbrev pub invariant-loop-at : goal.invariant-loop-at
invariant-loop-at l = record {
  forward : l.start ≤ l.at;
  within : l.at ≤ length l.text;
  word : (k : ℕ) → WordRest l.text l.at k → WordRest l.text l.start k;
  longest : (k : ℕ) → l.at ≤ k → WordRest l.text l.start k → WordRest l.text l.at k;
}

abbrev pub decreases-loop-at : goal.decreases-loop-at
decreases-loop-at l = length l.initial.text - l.at
