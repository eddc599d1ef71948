-- The token is there and is wanted, or one of the two fails.
use Rattle.std.proofs.Common.{◌∙◌, ap, sym}
use Rattle.token_grammar.specs.Spelling.{passes}
use Rattle.token_grammar.proofs.Sequences.{fails_at}
use Rattle.token_grammar.proofs.Tokens.{kept, keep_fault}
use Rattle.token_grammar.proofs.token_reading.keep_token.Goals as goal
use Rattle.token_grammar.proofs.token_reading.keep_token.Goals.{then-is_wanted+in_default, else-is_wanted}

pub returns-in-Some : goal.returns-in-Some
returns-in-Some c = λ grammar test is. kept c.in-Some.ensures.0 c.in_ok-copy_token.ensures c.in-Some.ensures.1
    (sym is ∙ c.if-is_wanted.true)

pub returns : goal.returns
returns c = λ grammar test is. elim c.if-is_wanted.branch [
  | then-is_wanted+in_default w ↦ fails_at (keep_fault (ap (passes test) w.in_default.ensures))
  | else-is_wanted w ↦
      fails_at (keep_fault (sym is ∙ w.if-is_wanted.false))
]
