-- Nothing is left at the end.
use Rattle.std.proofs.Common.{rules, ◌≡◌}
use Rattle.op_life.proofs.ValueLaws.{all_are_filled}
use Rattle.op_life.proofs.created_values.fill_all.Goals as goal

pub returns : goal.returns
returns c =
    let same : c.deref-id-items.result.now ≡ c.args.outline.now.attributes = search rules in
    all_are_filled c.args.schema.now c.args.creation.now c.args.outline.now c.loop-id.filled
    c.deref-id-items.result.now c.loop-id.id-index same c.loop-id-test.false c.loop-id.invariant
