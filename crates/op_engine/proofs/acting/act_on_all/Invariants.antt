-- What was done so far, with the objects that are left, is the whole.
use Rattle.std.proofs.Common.{◌≡◌, List, drop}
use Rattle.term_model.specs.declared.objects.NamedObject.{NamedObject}
use Rattle.term_model.specs.NamedObjects.{names}
use Rattle.scope_select.specs.Subtrees.{referred}
use Rattle.op_engine.specs.Acting.{act_of, noted_of, nothing_done}
use Rattle.op_engine.specs.Selecting.{AreThere}
use Rattle.op_engine.proofs.acting.act_on_all.Given as goal

abbrev pub invariant-loop-entry : goal.invariant-loop-entry
invariant-loop-entry l = (objects : List NamedObject) → AreThere objects (referred l.entries)
    → noted_of l.atomic (act_of l.schema l.request l.time) objects l.so_far
    (names (referred (drop l.entry-index l.entries)))
    ≡ noted_of l.atomic (act_of l.schema l.request l.time) objects nothing_done (names (referred l.entries))
