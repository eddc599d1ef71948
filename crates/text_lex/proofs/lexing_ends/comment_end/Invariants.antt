-- What is left of the comment at each octet is the rest of the whole.
use Rattle.std.proofs.Common.{ℕ, ◌-◌, ◌≤◌, length}
use Rattle.text_lex.specs.Comments.{CommentRest}
use Rattle.text_lex.proofs.lexing_ends.comment_end.Given as goal

abbrev pub invariant-loop-at : goal.invariant-loop-at
invariant-loop-at l = record {
  forward : l.start ≤ l.at;
  within : l.at ≤ length l.text;
  rest : (k : ℕ) → CommentRest l.text l.at k → CommentRest l.text l.start k;
}

abbrev pub decreases-loop-at : goal.decreases-loop-at
decreases-loop-at l = length l.initial.text - l.at
