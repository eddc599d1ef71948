-- The token that is wanted passes the test.
use Rattle.token_grammar.specs.TokenTests.{is_string}
use Rattle.token_grammar.proofs.token_reading.read_string.Goals as goal

pub returns : goal.returns
returns c = λ grammar. c.keep_token.ensures grammar is_string c.is_string_at.ensures
