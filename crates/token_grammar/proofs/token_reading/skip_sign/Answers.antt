-- The token that is wanted is the sign.
use Rattle.token_grammar.specs.TokenTests.{is_sign_of}
use Rattle.token_grammar.proofs.token_reading.skip_sign.Goals as goal

pub returns : goal.returns
returns c = λ grammar. c.skip_token.ensures grammar (is_sign_of c.args.sign.now) c.is_sign_at.ensures
