-- The front of the document has been read.
use Rattle.std.proofs.Common.{◌-◌, length}
use Rattle.text_lex.proofs.Reading.{IsRead}
use Rattle.text_lex.proofs.lexing.lex.Given as goal

abbrev pub invariant-loop-at : goal.invariant-loop-at
invariant-loop-at l = IsRead l.bytes l.tokens.items l.announced l.at

abbrev pub decreases-loop-at : goal.decreases-loop-at
decreases-loop-at l = length l.initial.bytes - l.at
