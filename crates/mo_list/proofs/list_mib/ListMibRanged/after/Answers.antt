use Rattle.std.proofs.Common.{◌∙◌, ◌+◌, ap, sym, subst, arith}
use Rattle.std.specs.Prelude.{slice_get}
use Rattle.term_model.specs.Following.{entry_after}
use Rattle.term_model.specs.NamedObjects.{IsByName}
use Rattle.term_model.specs.StepCounts.{IsOneCall}
use Rattle.mo_list.proofs.FindingLaws.{byte_is, held_at, held_nowhere, next_entry, of_one, one_call}
use Rattle.mo_list.specs.Entries.{objects_in}
use Rattle.mo_list.proofs.list_mib.ListMibRanged.after.Goals as goal

pub returns-then-next-entries-clause-next : goal.returns-then-next-entries-clause-next
returns-then-next-entries-clause-next g c =
    let entries = c.entries_of-entries.result.now in
    let name = c.args.name.now in
    let place = c.place_of-at.ensures.place in
    let step = c.from.ensures ∙ byte_is c.has_name_at.result in
    ap (λ objects. entry_after objects name) (sym (c.entries_of-entries.ensures ∙ c.self.view_is))
    ∙ next_entry name (objects_in entries) c.place_of-at.result c.has_name_at.result
    (subst IsByName (sym c.entries_of-entries.ensures) c.self.invariant) place.front place.behind
    (sym c.has_name_at.ensures.named)
    ∙ ap (λ n. slice_get (objects_in entries) (c.place_of-at.result + n)) (sym step)
    ∙ held_at entries (c.place_of-at.result + c.from.result) c.index-entries-next.result c.if-next-entries.true
    c.index-entries-next.is
    ∙ of_one _ _ _ c.deref.ensures c.deref-then-next-entries.ensures

pub returns-then-next-entries-clause-visits : goal.returns-then-next-entries-clause-visits
returns-then-next-entries-clause-visits g c =
    subst (λ objects. IsOneCall objects c.args.steps.now c.has_name_at.new.steps) (c.entries_of-entries.ensures
    ∙ c.self.view_is)
    (one_call c.entries_of-entries.result.now c.args.steps.now c.place_of-at.new.steps c.has_name_at.new.steps
    c.place_of-at.ensures.rises c.place_of-at.ensures.some c.place_of-at.ensures.few c.has_name_at.ensures.rises
    c.has_name_at.ensures.few)

pub returns-clause-next : goal.returns-clause-next
returns-clause-next g c =
    let entries = c.entries_of-entries.result.now in
    let name = c.args.name.now in
    let place = c.place_of-at.ensures.place in
    let step = c.from.ensures ∙ byte_is c.has_name_at.result in
    ap (λ objects. entry_after objects name) (sym (c.entries_of-entries.ensures ∙ c.self.view_is))
    ∙ next_entry name (objects_in entries) c.place_of-at.result c.has_name_at.result
    (subst IsByName (sym c.entries_of-entries.ensures) c.self.invariant) place.front place.behind
    (sym c.has_name_at.ensures.named)
    ∙ ap (λ n. slice_get (objects_in entries) (c.place_of-at.result + n)) (sym step)
    ∙ held_nowhere entries (c.place_of-at.result + c.from.result) (omega arith)

pub returns-clause-visits : goal.returns-clause-visits
returns-clause-visits g c =
    subst (λ objects. IsOneCall objects c.args.steps.now c.has_name_at.new.steps) (c.entries_of-entries.ensures
    ∙ c.self.view_is)
    (one_call c.entries_of-entries.result.now c.args.steps.now c.place_of-at.new.steps c.has_name_at.new.steps
    c.place_of-at.ensures.rises c.place_of-at.ensures.some c.place_of-at.ensures.few c.has_name_at.ensures.rises
    c.has_name_at.ensures.few)
