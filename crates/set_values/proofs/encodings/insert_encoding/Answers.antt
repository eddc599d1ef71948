use Rattle.set_values.proofs.LoopLaws.{insert_grows}
use Rattle.term_values.specs.Written.{der}
use Rattle.set_values.proofs.encodings.insert_encoding.Goals as goal

pub returns-clause-grows : goal.returns-clause-grows
returns-clause-grows c =
    insert_grows c.args.set.now c.insert.new.self c.in_ok-encoding.encoding (der c.args.member.now c.args.value.now)
    c.in_ok-encoding.ensures c.in_ok-is_new.ensures.updates.0
