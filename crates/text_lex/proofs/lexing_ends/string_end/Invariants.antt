-- What is left of the string at each octet is the rest of the whole, both ways.
use Rattle.std.proofs.Common.{ℕ, ◌-◌, ◌≤◌, length}
use Rattle.text_lex.specs.Lexemes.{StringRest}
use Rattle.text_lex.proofs.lexing_ends.string_end.Given as goal

abbrev pub invariant-loop-at : goal.invariant-loop-at
invariant-loop-at l = record {
  forward : l.start ≤ l.at;
  string : (k : ℕ) → StringRest l.text l.delimiter l.at k → StringRest l.text l.delimiter l.start k;
  whole : (k : ℕ) → StringRest l.text l.delimiter l.start k → StringRest l.text l.delimiter l.at k;
}

abbrev pub decreases-loop-at : goal.decreases-loop-at
decreases-loop-at l = length l.initial.text - l.at
