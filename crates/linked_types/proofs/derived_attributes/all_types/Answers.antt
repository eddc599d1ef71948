-- The types at the ends of bases.
use Rattle.linked_types.proofs.AttributeLaws.{attributes_by}
use Rattle.linked_types.proofs.derived_attributes.all_types.Goals as goal

pub returns-clause-told : goal.returns-clause-told
returns-clause-told c = λ ms linked known table same.
    attributes_by ms linked c.end_types.new.table c.args.attributes.now c.in_ok-ends.ends.items c.as_slice.result.now
    c.in_ok-types.types.items same c.as_slice.ensures.value c.in_ok-ends.ensures
    (c.in_ok-types.ensures.told ms linked known table)
