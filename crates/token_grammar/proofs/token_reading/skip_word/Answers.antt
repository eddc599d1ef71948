-- The token that is wanted is the word.
use Rattle.token_grammar.specs.TokenTests.{is_word_of}
use Rattle.token_grammar.proofs.token_reading.skip_word.Goals as goal

pub returns : goal.returns
returns c = λ grammar. c.skip_token.ensures grammar (is_word_of c.args.word.now) c.is_word_at.ensures
