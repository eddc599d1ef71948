-- The name is assigned, or it isn't.
use Rattle.std.proofs.Common.{◌∙◌, sym, subst}
use Rattle.std.proofs.lemmas.Bool.{false≢true}
use Rattle.gdmo_names.specs.FaultSets.{OneFault}
use Rattle.gdmo_names.specs.FirstLabelFault.LabelFault.{KindWrong, LabelUnknown}
use Rattle.gdmo_names.specs.FirstNames.{IsAssigned}
use Rattle.gdmo_names.proofs.NotingLaws.{left_noted, one_there, right_noted}
use Rattle.gdmo_identifiers.proofs.first_faults.note_name.Goals as goal

pub returns-then-is_assigned : goal.returns-then-is_assigned
returns-then-is_assigned c = λ parts are.
    let name = c.args.name.now in
    let holds : IsAssigned parts name.text = subst (IsAssigned parts) c.as_slice.ensures
    ((c.is_assigned.ensures parts are).0 c.if-is_assigned.true) in
    right_noted (OneFault (¬ IsAssigned parts name.text) LabelUnknown c.args.document name.at)
    (OneFault (IsAssigned parts name.text) KindWrong c.args.document name.at) (λ k d t fault. fault.0 holds)
    (one_there holds c.note.ensures)

pub returns-else-is_assigned : goal.returns-else-is_assigned
returns-else-is_assigned c = λ parts are.
    let name = c.args.name.now in
    let never : ¬ IsAssigned parts name.text = (λ h. false≢true (sym c.if-is_assigned.false ∙
    (c.is_assigned.ensures parts are).1 (subst (IsAssigned parts) (sym c.as_slice.ensures) h))) in
    left_noted (OneFault (¬ IsAssigned parts name.text) LabelUnknown c.args.document name.at)
    (OneFault (IsAssigned parts name.text) KindWrong c.args.document name.at) (λ k d t fault. never fault.0)
    (one_there never c.note-else-is_assigned.ensures)
