-- What was read, and the place behind the semicolon.
use Rattle.std.proofs.Common.{refl}
use Rattle.token_grammar.proofs.clause_ending.end_clause.Goals as goal

pub returns-in-Ok-skip_sign : goal.returns-in-Ok-skip_sign
returns-in-Ok-skip_sign g c = rw (c.in-Ok.is) (refl, c.in-Ok-skip_sign.ensures)
