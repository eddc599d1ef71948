-- One more arc.
use Rattle.identifier_arcs.proofs.KnownLaws.{values_more}
use Rattle.identifier_arcs.proofs.known_arcs.arc_values.Goals as goal

pub loop-token-preserved : goal.loop-token-preserved
loop-token-preserved c = λ whole.
    values_more c.args.tokens.now c.loop-token.token-index c.token-item.result c.loop-token.values.items
    c.push.new.self.items c.arc_value.result c.loop-token-test.true c.token-item.is whole c.arc_value.ensures
    c.in_ok-push.ensures.items (c.loop-token.invariant whole)
