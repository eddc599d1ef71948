-- The token that is wanted passes the test.
use Rattle.token_grammar.specs.TokenTests.{is_word}
use Rattle.token_grammar.proofs.token_reading.read_any_word.Goals as goal

pub returns : goal.returns
returns c = λ grammar. c.keep_token.ensures grammar is_word c.is_any_word_at.ensures
