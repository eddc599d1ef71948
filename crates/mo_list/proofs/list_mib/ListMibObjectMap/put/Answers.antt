use Rattle.std.proofs.Common.{◌≡◌, ◌∙◌, ap, sym, subst}
use Rattle.std.specs.Prelude.{is_some}
use Rattle.term_model.specs.NamedObjects.{IsByName, is_named_at, object_at, stored}
use Rattle.term_model.specs.StepCounts.{IsOneCall}
use Rattle.term_model.specs.declared.objects.NamedObject.{NamedObject}
use Rattle.mo_list.specs.Entries.{objects_of}
use Rattle.mo_list.specs.Places.{IsPlace}
use Rattle.mo_list.proofs.FindingLaws.{one_call}
use Rattle.term_model.proofs.MapLaws.{names_rise}
use Rattle.mo_list.proofs.ChangeLaws.{changed, is_there}
use Rattle.mo_list.proofs.list_mib.ListMibObjectMap.put.Goals as goal

pub invariant_of-self-2 : goal.invariant_of-self-2
invariant_of-self-2 g c =
    let objects = objects_of c.self.inside.entries in
    let name = c.args.name in
    let at = c.place_of-at.result in
    let place = subst (λ os. IsPlace os name at) c.entries_of-entries.ensures c.place_of-at.ensures.place in
    let named = subst (λ os. is_named_at os at name ≡ c.has_name_at-had.result) c.entries_of-entries.ensures
    (sym c.has_name_at-had.ensures.named) in
    let entry : NamedObject = record { name = c.args.name; object = c.args.object } in
    subst IsByName (sym (c.in-Ok.ensures.written ∙ changed c.has_name_at-had.result entry objects at place named))
    (names_rise entry objects c.self.invariant)

pub returns-clause-stored : goal.returns-clause-stored
returns-clause-stored g c =
    let objects = objects_of c.self.inside.entries in
    let name = c.args.name in
    let at = c.place_of-at.result in
    let place = subst (λ os. IsPlace os name at) c.entries_of-entries.ensures c.place_of-at.ensures.place in
    let named = subst (λ os. is_named_at os at name ≡ c.has_name_at-had.result) c.entries_of-entries.ensures
    (sym c.has_name_at-had.ensures.named) in
    let entry : NamedObject = record { name = c.args.name; object = c.args.object } in
    c.in-Ok.ensures.written ∙ changed c.has_name_at-had.result entry objects at place named
    ∙ ap (λ os. stored entry os) c.self.view_is

pub returns-clause-had : goal.returns-clause-had
returns-clause-had g c =
    let objects = objects_of c.self.inside.entries in
    let name = c.args.name in
    let at = c.place_of-at.result in
    let place = subst (λ os. IsPlace os name at) c.entries_of-entries.ensures c.place_of-at.ensures.place in
    let named = subst (λ os. is_named_at os at name ≡ c.has_name_at-had.result) c.entries_of-entries.ensures
    (sym c.has_name_at-had.ensures.named) in
    is_there c.has_name_at-had.result name objects at c.self.invariant place named
    ∙ ap (λ os. is_some (object_at os name)) c.self.view_is

pub returns-clause-visits : goal.returns-clause-visits
returns-clause-visits g c =
    subst (λ objects. IsOneCall objects c.args.steps.now c.has_name_at-had.new.steps) (c.entries_of-entries.ensures
    ∙ c.self.view_is)
    (one_call c.entries_of-entries.result.now c.args.steps.now c.place_of-at.new.steps c.has_name_at-had.new.steps
    c.place_of-at.ensures.rises c.place_of-at.ensures.some c.place_of-at.ensures.few c.has_name_at-had.ensures.rises
    c.has_name_at-had.ensures.few)

pub returns-in-Err-clause-visits : goal.returns-in-Err-clause-visits
returns-in-Err-clause-visits g c =
    subst (λ objects. IsOneCall objects c.args.steps.now c.has_name_at-had.new.steps) (c.entries_of-entries.ensures
    ∙ c.self.view_is)
    (one_call c.entries_of-entries.result.now c.args.steps.now c.place_of-at.new.steps c.has_name_at-had.new.steps
    c.place_of-at.ensures.rises c.place_of-at.ensures.some c.place_of-at.ensures.few c.has_name_at-had.ensures.rises
    c.has_name_at-had.ensures.few)
