-- What an m-Get and an m-Set keep of the objects: rising names, sizes, and that the map is well-formed.
use Rattle.std.proofs.Common.{◌≡◌, ◌≤◌, ℕ, Bool, List, [], ◌∷◌, ◌++◌, map, Some, Ok, Err}
use Rattle.std.proofs.Common.{sym}
use Rattle.std.proofs.Math.Path.{subst}
use Rattle.std.proofs.lemmas.List.Elements.{All-contains, All-weaker}
use Rattle.std.proofs.lemmas.Option.{same_Some}
use Rattle.std.specs.Prelude.{IfOk, Result, length}
use Rattle.term_model.specs.declared.effect.Diff.{Diff}
use Rattle.term_model.specs.declared.effect.Effect.{Effect}
use Rattle.term_model.specs.declared.name.Rdn.{Rdn}
use Rattle.term_model.specs.declared.object.Object.{Object}
use Rattle.term_model.specs.declared.objects.NamedObject.{NamedObject}
use Rattle.term_model.specs.declared.reply.CmisError.{CmisError}
use Rattle.term_model.specs.declared.reply.Reply.{Reply}
use Rattle.term_model.specs.declared.reply.Reply.TheVariants as reply
use Rattle.term_model.specs.declared.request.Change.{Change}
use Rattle.term_model.specs.declared.request.Head.{Head}
use Rattle.term_model.specs.declared.request.Request.{Request}
use Rattle.term_model.specs.declared.request.Request.TheVariants as request
use Rattle.term_model.specs.declared.results.SetInfoStatus.{SetInfoStatus}
use Rattle.term_model.specs.declared.results.SetInfoStatus.TheVariants as set_info
use Rattle.term_model.specs.declared.schema.Set.{Set}
use Rattle.term_model.specs.BoundClasses.{object_size}
use Rattle.term_model.specs.CmisErrors.{set_list_error}
use Rattle.term_model.specs.Modifications.{Modified, modified, unmodified}
use Rattle.term_model.specs.NamedObjects.{IsByName}
use Rattle.term_model.specs.ObjectSet.{differing, left_by, modified_attributes, patch_of, set_with, stays}
use Rattle.term_model.specs.WellFormedObjects.{AreGood, IsGoodObject}
use Rattle.set_laws.specs.KeptMaps.{under}
use Rattle.set_laws.proofs.Members.{either_way}
use Rattle.set_laws.proofs.Sizes.{size_stays}
use Rattle.set_laws.proofs.StoredObjects.{entry_is, stored_all}
use Rattle.operation_model.specs.OperationChecks.{checked}
use Rattle.operation_model.specs.OperationConditions.{AreSmall}
use Rattle.operation_model.specs.WholeOperation.{Outcome, get_outcome, granted_at, installed, is_atomic}
use Rattle.operation_model.specs.WholeOperation.{outcome, set_outcome, setting}
use Rattle.operation_laws.proofs.KeptMaps.{Keeps, acted_keeps, gets_change_nothing, sets_keep_maps}
use Rattle.op_install.specs.StayingLaws.{GoodAreSmall, OutcomesStayGood, OutcomesStaySmall}
use Rattle.op_install.proofs.Installed.{installed_rises}

-- what holds of the objects that an m-Get and an m-Set leave holds of the objects of each outcome
by_kind : (P : List NamedObject → Type 0) (schema : Set) (objects : List NamedObject) (asked : Request) (moment : ℕ)
    (told : Outcome)
    → P objects
    → ((head : Head) (changes : List Change) → P (set_outcome schema objects head changes moment).objects)
    → outcome schema objects asked moment ≡ Some told → P told.objects
by_kind P schema objects (request.Get head ids) moment told as_they_are left is =
    subst (λ (o : Outcome). P o.objects) (same_Some (get_outcome schema objects head ids moment) told is)
    (subst P (sym (gets_change_nothing schema objects head ids moment)) as_they_are)
by_kind P schema objects (request.Set head changes confirmed) moment told as_they_are left is =
    subst (λ (o : Outcome). P o.objects) (same_Some (set_outcome schema objects head changes moment) told is)
    (left head changes)
by_kind P schema objects (request.Act head action argument confirmed) moment told as_they_are left is = absurd cc
by_kind P schema objects (request.Create class place reference given) moment told as_they_are left is = absurd cc
by_kind P schema objects (request.Delete head) moment told as_they_are left is = absurd cc
by_kind P schema objects (request.Report class at kind when info confirmed) moment told as_they_are left is = absurd cc

-- ---- rising names

pub outcomes_rise : (schema : Set) (objects : List NamedObject) (asked : Request) (moment : ℕ) (told : Outcome)
    → IsByName objects → outcome schema objects asked moment ≡ Some told → IsByName told.objects
outcomes_rise schema objects asked moment told rising is =
    by_kind IsByName schema objects asked moment told rising
    (λ head changes. acted_keeps IsByName objects head 2 (setting schema head changes moment)
    (λ left name object effect so_far at done. installed_rises left effect.changes so_far) rising
    (checked schema objects head (length changes))) is

-- ---- well-formed maps

pub outcomes_stay_good : OutcomesStayGood
outcomes_stay_good schema objects asked moment told good is =
    by_kind (AreGood schema) schema objects asked moment told good
    (λ head changes. sets_keep_maps schema objects head changes moment good) is

pub good_are_small : GoodAreSmall
good_are_small schema objects good =
    All-weaker (IsGoodObject schema objects) (λ (entry : NamedObject). object_size schema entry.object ≤ 16384)
    (λ entry is. is.small) objects good.each

-- ---- sizes

patch_small : (schema : Set) (objects : List NamedObject) (name : List Rdn) (object : Object) (diffs : List Diff)
    → AreSmall schema objects → object_size schema object ≤ 16384
    → AreSmall schema (installed objects (patch_of name object diffs))
patch_small schema objects name object [] all one = all
patch_small schema objects name object (diff ∷ diffs) all one =
    stored_all (λ (entry : NamedObject). object_size schema entry.object ≤ 16384) (under name object) objects one all

set_small : (schema : Set) (objects : List NamedObject) (name : List Rdn) (object : Object) (made : Modified)
    (atomic : Bool) (time : List ℕ) (failures : List SetInfoStatus) → AreSmall schema objects
    → object_size schema made.object ≤ 16384
    → IfOk (set_with schema name object made atomic time failures)
    (λ effect. AreSmall schema (installed objects effect.changes))
set_small schema objects name object made atomic time [] all one =
    patch_small schema objects name made.object (differing schema.attributes object.attrs made.object.attrs) all one
set_small schema objects name object made atomic time (failure ∷ failures) all one =
    let answer : Reply = reply.Error (set_list_error object.class name time
    ((failure ∷ failures) ++ map set_info.Attribute (modified_attributes schema made))) in
    either_way (λ left. IfOk left (λ effect. AreSmall schema (installed objects effect.changes)))
    (stays atomic made.done) (Ok (left_by schema name object made.object answer))
    (Err (set_list_error object.class name time (failure ∷ failures)))
    (λ best_effort.
    patch_small schema objects name made.object (differing schema.attributes object.attrs made.object.attrs) all one)
    (λ fails. tt)

sets_small : (schema : Set) (head : Head) (changes : List Change) (moment : ℕ)
    → Keeps (AreSmall schema) (setting schema head changes moment)
sets_small schema head changes moment objects name object effect all at done =
    let made = modified schema name (unmodified object) changes in
    let one = All-contains (λ (entry : NamedObject). object_size schema entry.object ≤ 16384) objects
    (under name object) all (entry_is objects name object at) in
    subst (λ (r : Result Effect CmisError). IfOk r (λ e. AreSmall schema (installed objects e.changes))) done
    (set_small schema objects name object made (is_atomic head) (granted_at moment) made.failures all
    (size_stays schema name object changes one))

pub outcomes_stay_small : OutcomesStaySmall
outcomes_stay_small schema objects asked moment told small is =
    by_kind (AreSmall schema) schema objects asked moment told small
    (λ head changes. acted_keeps (AreSmall schema) objects head 2 (setting schema head changes moment)
    (sets_small schema head changes moment) small (checked schema objects head (length changes))) is
