-- The token that is wanted passes the test.
use Rattle.token_grammar.specs.TokenTests.{is_label}
use Rattle.token_grammar.proofs.token_reading.read_label.Goals as goal

pub returns : goal.returns
returns c = λ grammar. c.keep_token.ensures grammar is_label c.is_label_at.ensures
