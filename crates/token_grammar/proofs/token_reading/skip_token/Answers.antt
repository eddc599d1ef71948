-- The token is there and is wanted, or one of the two fails.
use Rattle.std.proofs.Common.{◌∙◌, ap, sym}
use Rattle.token_grammar.specs.Spelling.{passes}
use Rattle.token_grammar.proofs.Sequences.{fails_at}
use Rattle.token_grammar.proofs.Tokens.{mark_spelt, marks_fault, spelt_to}
use Rattle.token_grammar.proofs.token_reading.skip_token.Goals as goal

pub returns-in-Some : goal.returns-in-Some
returns-in-Some c = λ grammar test is. spelt_to (sym c.in-Some.ensures.1) (mark_spelt (sym is ∙ c.if-is_wanted.true))

pub returns-else-is_wanted : goal.returns-else-is_wanted
returns-else-is_wanted c = λ grammar test is. fails_at (marks_fault (sym is ∙ c.if-is_wanted.false))

pub returns-in_default : goal.returns-in_default
returns-in_default c = λ grammar test is. fails_at (marks_fault (ap (passes test) c.in_default.ensures))
