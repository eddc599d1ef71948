-- The token that is wanted passes the test.
use Rattle.token_grammar.specs.TokenTests.{is_number}
use Rattle.token_grammar.proofs.token_reading.read_number.Goals as goal

pub returns : goal.returns
returns c = λ grammar. c.keep_token.ensures grammar is_number c.is_number_at.ensures
