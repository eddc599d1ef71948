use Rattle.std.proofs.Common.{◌≡◌, ◌∙◌, ap, sym, subst}
use Rattle.std.specs.Prelude.{is_some}
use Rattle.term_model.specs.NamedObjects.{IsByName, is_named_at, object_at, removed}
use Rattle.term_model.specs.StepCounts.{IsOneCall}
use Rattle.mo_list.specs.Entries.{objects_of}
use Rattle.mo_list.specs.Places.{IsPlace}
use Rattle.mo_list.proofs.FindingLaws.{one_call}
use Rattle.mo_list.proofs.ChangeLaws.{is_there, keeps, removed_rises, removes}
use Rattle.mo_list.proofs.list_mib.ListMibObjectMap.take_out.Goals as goal

pub invariant_of-self : goal.invariant_of-self
invariant_of-self g c =
    let objects = objects_of c.self.inside.entries in
    let name = c.args.name.now in
    let at = c.place_of-at.result in
    let place = subst (λ os. IsPlace os name at) c.entries_of-entries.ensures c.place_of-at.ensures.place in
    let named = subst (λ os. is_named_at os at name ≡ c.has_name_at-had.result) c.entries_of-entries.ensures
    (sym c.has_name_at-had.ensures.named) in
    subst IsByName (sym (c.in_ok-drop_entry.ensures.dropped
    ∙ removes name objects at c.self.invariant place.front (named ∙ c.if-had.true)))
    (removed_rises name objects c.self.invariant)

pub returns-in_err-drop_entry-clause-visits : goal.returns-in_err-drop_entry-clause-visits
returns-in_err-drop_entry-clause-visits g c =
    subst (λ objects. IsOneCall objects c.args.steps.now c.has_name_at-had.new.steps) (c.entries_of-entries.ensures
    ∙ c.self.view_is)
    (one_call c.entries_of-entries.result.now c.args.steps.now c.place_of-at.new.steps c.has_name_at-had.new.steps
    c.place_of-at.ensures.rises c.place_of-at.ensures.some c.place_of-at.ensures.few c.has_name_at-had.ensures.rises
    c.has_name_at-had.ensures.few)

pub returns-in_ok-drop_entry-clause-removed : goal.returns-in_ok-drop_entry-clause-removed
returns-in_ok-drop_entry-clause-removed g c =
    let objects = objects_of c.self.inside.entries in
    let name = c.args.name.now in
    let at = c.place_of-at.result in
    let place = subst (λ os. IsPlace os name at) c.entries_of-entries.ensures c.place_of-at.ensures.place in
    let named = subst (λ os. is_named_at os at name ≡ c.has_name_at-had.result) c.entries_of-entries.ensures
    (sym c.has_name_at-had.ensures.named) in
    c.in_ok-drop_entry.ensures.dropped ∙ removes name objects at c.self.invariant place.front (named ∙ c.if-had.true)
    ∙ ap (λ os. removed name os) c.self.view_is

pub returns-in_ok-drop_entry-clause-had : goal.returns-in_ok-drop_entry-clause-had
returns-in_ok-drop_entry-clause-had g c =
    let objects = objects_of c.self.inside.entries in
    let name = c.args.name.now in
    let at = c.place_of-at.result in
    let place = subst (λ os. IsPlace os name at) c.entries_of-entries.ensures c.place_of-at.ensures.place in
    let named = subst (λ os. is_named_at os at name ≡ c.has_name_at-had.result) c.entries_of-entries.ensures
    (sym c.has_name_at-had.ensures.named) in
    is_there c.has_name_at-had.result name objects at c.self.invariant place named
    ∙ ap (λ os. is_some (object_at os name)) c.self.view_is

pub returns-in_ok-drop_entry-clause-visits : goal.returns-in_ok-drop_entry-clause-visits
returns-in_ok-drop_entry-clause-visits g c =
    subst (λ objects. IsOneCall objects c.args.steps.now c.has_name_at-had.new.steps) (c.entries_of-entries.ensures
    ∙ c.self.view_is)
    (one_call c.entries_of-entries.result.now c.args.steps.now c.place_of-at.new.steps c.has_name_at-had.new.steps
    c.place_of-at.ensures.rises c.place_of-at.ensures.some c.place_of-at.ensures.few c.has_name_at-had.ensures.rises
    c.has_name_at-had.ensures.few)

pub returns-else-had-clause-removed : goal.returns-else-had-clause-removed
returns-else-had-clause-removed g c =
    let objects = objects_of c.self.inside.entries in
    let name = c.args.name.now in
    let at = c.place_of-at.result in
    let place = subst (λ os. IsPlace os name at) c.entries_of-entries.ensures c.place_of-at.ensures.place in
    let named = subst (λ os. is_named_at os at name ≡ c.has_name_at-had.result) c.entries_of-entries.ensures
    (sym c.has_name_at-had.ensures.named) in
    sym c.self.view_is ∙ sym (keeps name objects at c.self.invariant place.front place.behind (named ∙ c.if-had.false))
    ∙ ap (λ os. removed name os) c.self.view_is

pub returns-else-had-clause-had : goal.returns-else-had-clause-had
returns-else-had-clause-had g c =
    let objects = objects_of c.self.inside.entries in
    let name = c.args.name.now in
    let at = c.place_of-at.result in
    let place = subst (λ os. IsPlace os name at) c.entries_of-entries.ensures c.place_of-at.ensures.place in
    let named = subst (λ os. is_named_at os at name ≡ c.has_name_at-had.result) c.entries_of-entries.ensures
    (sym c.has_name_at-had.ensures.named) in
    is_there c.has_name_at-had.result name objects at c.self.invariant place named
    ∙ ap (λ os. is_some (object_at os name)) c.self.view_is

pub returns-else-had-clause-visits : goal.returns-else-had-clause-visits
returns-else-had-clause-visits g c =
    subst (λ objects. IsOneCall objects c.args.steps.now c.has_name_at-had.new.steps) (c.entries_of-entries.ensures
    ∙ c.self.view_is)
    (one_call c.entries_of-entries.result.now c.args.steps.now c.place_of-at.new.steps c.has_name_at-had.new.steps
    c.place_of-at.ensures.rises c.place_of-at.ensures.some c.place_of-at.ensures.few c.has_name_at-had.ensures.rises
    c.has_name_at-had.ensures.few)
