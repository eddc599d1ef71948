-- The token that is wanted passes the test.
use Rattle.token_grammar.specs.TokenTests.{is_name}
use Rattle.token_grammar.proofs.token_reading.read_name.Goals as goal

pub returns : goal.returns
returns c = λ grammar. c.keep_token.ensures grammar is_name c.is_name_at.ensures
