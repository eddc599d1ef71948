-- The reader of values tells whether one begins.
use Rattle.token_grammar.proofs.Sequences.{fails_at}
use Rattle.extra_syntax.proofs.OptionalValues.{value_absent, value_comes, value_fault}
use Rattle.extra_syntax.proofs.step.read_optional_value.Goals as goal

pub returns-in-Ok : goal.returns-in-Ok
returns-in-Ok c = value_comes c.in-Ok.ensures

pub returns-then-token-at : goal.returns-then-token-at
returns-then-token-at c = value_absent c.if-token-at.true (c.in-Err-Syntax.ensures.fault c.in-Err-Syntax.token
    c.in-Err-Syntax.field-0-is)

pub returns-else-token-at : goal.returns-else-token-at
returns-else-token-at c = fails_at (value_fault c.if-token-at.false
    (c.in-Err-Syntax.ensures.fault c.in-Err-Syntax.token c.in-Err-Syntax.field-0-is))
