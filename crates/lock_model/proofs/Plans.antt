-- A plan that was made on one map is the plan on each map with the same read set.
use Rattle.std.proofs.Common.{◌≡◌, ◌≢◌, Bool, true, false, List, Option}
use Rattle.std.proofs.Common.{refl, sym, ap, ◌∙◌, subst}
use Rattle.term_model.specs.declared.name.Rdn.{Rdn}
use Rattle.term_model.specs.declared.object.Object.{Object}
use Rattle.term_model.specs.declared.objects.NamedObject.{NamedObject}
use Rattle.term_model.specs.NamedObjects.{object_at}
use Rattle.operation_model.specs.WholeOperation.{AreChanges, Changed}
use Rattle.lock_model.specs.declared.path.Wanted.{Wanted}
use Rattle.lock_model.specs.LockPath.{is_inside}
use Rattle.lock_model.specs.Units.{taken_on}
use Rattle.lock_model.specs.ReadSet.{ReadSet}
use Rattle.lock_model.specs.OperationLaws.{Framed, PlanStays}
use Rattle.lock_model.proofs.Maps.{Agree, agree_from}
use Rattle.lock_model.proofs.Paths.{path_stays}

-- what is inside is changed alike, what is outside isn't changed
planned : (test : List Rdn → Bool) (one other after also_after : List NamedObject) (changes : Changed)
    → Agree test one other → Agree test after also_after
    → ((name : List Rdn) → test name ≡ false → object_at after name ≡ object_at one name)
    → ((name : List Rdn) → test name ≡ false → object_at also_after name ≡ object_at other name)
    → AreChanges one after changes → AreChanges other also_after changes
planned test one other after also_after changes h same still also made = record {
  rising = made.rising;
  each = λ change at. each change (made.each change at) (test change.0) refl;
  others = λ name not_there. rest name (made.others name not_there) (test name) refl;
}
  where
    each : (change : List Rdn × Option Object)
        → (object_at after change.0 ≡ change.1) × (object_at one change.0 ≢ change.1) → (b : Bool)
        → test change.0 ≡ b → (object_at also_after change.0 ≡ change.1) × (object_at other change.0 ≢ change.1)
    each change was true e = (
      sym (same.same change.0 e) ∙ was.0,
      λ k. was.1 (h.same change.0 e ∙ k),
    )
    each change was false e = absurd (was.1 (sym (still change.0 e) ∙ was.0))

    rest : (name : List Rdn) → object_at after name ≡ object_at one name → (b : Bool) → test name ≡ b
        → object_at also_after name ≡ object_at other name
    rest name was true e = sym (same.same name e) ∙ was ∙ h.same name e
    rest name was false e = also name e

pub plan_stays : PlanStays
plan_stays = λ schema one other whole does changes keeps rises other_rises short other_short same made.
    let wanted : Wanted = taken_on schema one whole in
    let agree : Agree (is_inside wanted.unit) one other =
    agree_from (is_inside wanted.unit) one other rises other_rises (ap (λ (c : ReadSet). c.held) same) in
    let told = keeps.told one other rises other_rises short other_short same in
    let framed = keeps.frame one rises short in
    let also : Framed wanted other (does other).objects =
    subst (λ (w : Wanted). Framed w other (does other).objects)
    (path_stays schema one other whole rises other_rises same) (keeps.frame other other_rises other_short) in
    let after : Agree (is_inside wanted.unit) (does one).objects (does other).objects =
    agree_from (is_inside wanted.unit) (does one).objects (does other).objects framed.rises also.rises told.inside in
    planned (is_inside wanted.unit) one other (does one).objects (does other).objects changes agree after
    framed.outside also.outside made
