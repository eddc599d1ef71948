-- What is wrong with a class, by its table.
use Rattle.std.proofs.Common.{ap, sym, subst}
use Rattle.std.specs.Option.{option_copied}
use Rattle.class_faults.specs.FaultSets.{Notes}
use Rattle.property_faults.specs.TableFaults.{TableFaults}
use Rattle.property_faults.proofs.NotedLaws.{class_noted}
use Rattle.property_faults.proofs.property_faults.note_class.Goals as goal

pub returns : goal.returns
returns c = λ ms known.
    let head = c.args.head.now in
    subst (λ own. Notes (TableFaults ms c.args.parts.now.linked.now c.args.parts.now.table.now own head)
    c.args.faults.now.first c.note_where-2.new.faults.first) (sym (ap option_copied c.in-Some.is))
    (class_noted c.is_some_unequal-unequal.result c.in_ok-empty.empty head.document head.label.at
    c.is_some_unequal-unequal.ensures (c.in_ok-empty.ensures ms known) c.note_where.ensures c.note_where-2.ensures)
