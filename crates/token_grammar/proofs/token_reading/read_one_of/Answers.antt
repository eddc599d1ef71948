-- The token that is wanted is one of the words.
use Rattle.std.specs.List.{list_any}
use Rattle.token_grammar.specs.TokenTests.{is_word_of}
use Rattle.token_grammar.proofs.token_reading.read_one_of.Goals as goal

pub returns : goal.returns
returns c = λ grammar. c.keep_token.ensures grammar
    (λ token. list_any (λ word. is_word_of word.now token) c.args.words.now) c.is_one_of_at.ensures
