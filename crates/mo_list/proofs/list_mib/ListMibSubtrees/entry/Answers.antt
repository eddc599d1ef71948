use Rattle.std.proofs.Common.{◌∙◌, Some, ap, sym, subst}
use Rattle.term_model.specs.NamedObjects.{IsByName}
use Rattle.term_model.specs.StepCounts.{IsOneCall}
use Rattle.term_model.specs.declared.objects.NamedObject.{NamedObject}
use Rattle.scope_select.specs.Subtrees.{entry_of}
use Rattle.mo_list.proofs.FindingLaws.{entry_nowhere, entry_there, none_named, one_call}
use Rattle.mo_list.specs.Entries.{objects_in}
use Rattle.mo_list.proofs.list_mib.ListMibSubtrees.entry.Goals as goal

pub returns-then-has_name_at-clause-found : goal.returns-then-has_name_at-clause-found
returns-then-has_name_at-clause-found g c =
    let entries = c.entries_of-entries.result.now in
    let name = c.args.name.now in
    ap (λ (o : NamedObject). Some o) c.deref.ensures
    ∙ sym (entry_there name entries c.place_of-at.result c.index-entries-at.result c.place_of-at.ensures.place.front
    (sym c.has_name_at.ensures.named ∙ c.if-has_name_at.true) c.index-entries-at.is)
    ∙ ap (λ objects. entry_of objects name) (c.entries_of-entries.ensures ∙ c.self.view_is)

pub returns-then-has_name_at-clause-visits : goal.returns-then-has_name_at-clause-visits
returns-then-has_name_at-clause-visits g c =
    subst (λ objects. IsOneCall objects c.args.steps.now c.has_name_at.new.steps) (c.entries_of-entries.ensures
    ∙ c.self.view_is)
    (one_call c.entries_of-entries.result.now c.args.steps.now c.place_of-at.new.steps c.has_name_at.new.steps
    c.place_of-at.ensures.rises c.place_of-at.ensures.some c.place_of-at.ensures.few c.has_name_at.ensures.rises
    c.has_name_at.ensures.few)

pub returns-clause-found : goal.returns-clause-found
returns-clause-found g c =
    let name = c.args.name.now in
    let place = c.place_of-at.ensures.place in
    sym (entry_nowhere (objects_in c.entries_of-entries.result.now) name (none_named name (objects_in c.entries_of-entries.result.now) c.place_of-at.result
    (subst IsByName (sym c.entries_of-entries.ensures) c.self.invariant) place.front place.behind
    (sym c.has_name_at.ensures.named ∙ c.if-has_name_at.false)))
    ∙ ap (λ objects. entry_of objects name) (c.entries_of-entries.ensures ∙ c.self.view_is)

pub returns-clause-visits : goal.returns-clause-visits
returns-clause-visits g c =
    subst (λ objects. IsOneCall objects c.args.steps.now c.has_name_at.new.steps) (c.entries_of-entries.ensures
    ∙ c.self.view_is)
    (one_call c.entries_of-entries.result.now c.args.steps.now c.place_of-at.new.steps c.has_name_at.new.steps
    c.place_of-at.ensures.rises c.place_of-at.ensures.some c.place_of-at.ensures.few c.has_name_at.ensures.rises
    c.has_name_at.ensures.few)
