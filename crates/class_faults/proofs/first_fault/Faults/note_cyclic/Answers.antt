-- What is marked is noted, and nothing else.
use Rattle.std.proofs.Common.{sym, ◌∙◌}
use Rattle.std.specs.Prelude.{slice_get}
use Rattle.class_faults.specs.FirstClassFault.ClassFault.{ClassCyclic}
use Rattle.class_faults.proofs.CyclicLaws.{marked, unmarked}
use Rattle.class_faults.proofs.NotingLaws.{one_not, one_there}
use Rattle.class_faults.proofs.first_fault.Faults.note_cyclic.Goals as goal

pub returns-then-is_marked : goal.returns-then-is_marked
returns-then-is_marked c = one_there (marked (slice_get c.args.marks.now c.args.place)
    (sym c.is_marked.ensures ∙ c.if-is_marked.true)) c.note.ensures

pub returns : goal.returns
returns c = one_not ClassCyclic c.args.document c.args.label.now.at c.args.self.now.first
    (unmarked (slice_get c.args.marks.now c.args.place) (sym c.is_marked.ensures ∙ c.if-is_marked.false))
