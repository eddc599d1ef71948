-- An object of a map whose objects are small is small; and what is told where few names are in scope.
use Rattle.std.proofs.Common.{◌≡◌, ◌≤◌, ◌<◌, ℕ, Bool, true, false, List, [], ◌∷◌, Some, Result, Ok, Err, refl, sym}
use Rattle.std.proofs.Common.{◌∙◌, ap, arith, rules}
use Rattle.std.proofs.Math.Path.{subst}
use Rattle.std.proofs.lemmas.List.Elements.{All-from_recursion, All-head, All-tail}
use Rattle.std.proofs.lemmas.List.{length-map}
use Rattle.std.specs.List.{AllByRecursion}
use Rattle.std.proofs.lemmas.Option.{same_Some}
use Rattle.std.specs.Prelude.{OnOk, length, nat_le}
use Rattle.term_model.specs.declared.effect.Effect.{Effect}
use Rattle.term_model.specs.declared.effect.OneRefusal.{OneRefusal}
use Rattle.term_model.specs.declared.effect.OneRefusal.TheVariants.{Cmis}
use Rattle.term_model.specs.declared.name.Rdn.{Rdn}
use Rattle.term_model.specs.declared.object.Object.{Object}
use Rattle.term_model.specs.declared.objects.NamedObject.{NamedObject}
use Rattle.term_model.specs.declared.reply.CmisError.{CmisError}
use Rattle.term_model.specs.declared.schema.Set.{Set}
use Rattle.term_model.specs.declared.scope.Scope.{Scope}
use Rattle.term_model.specs.BoundClasses.{object_size}
use Rattle.term_model.specs.CmisErrors.{complexity_limitation}
use Rattle.term_model.specs.Effects.{TellsEffect}
use Rattle.term_model.specs.Comparing.{is_same_name}
use Rattle.term_model.specs.NamedObjects.{object_at}
use Rattle.term_model.specs.Scope.{names_in_scope}
use Rattle.term_model.proofs.MapLaws.{here, later}
use Rattle.operation_model.specs.OperationChecks.{Checked, checked_by, names_fault}
use Rattle.operation_model.specs.OperationConditions.{AreSmall}
use Rattle.op_engine.specs.Plans.{TellsChecked}
use Rattle.op_engine.specs.Selecting.{AreThere}
use Rattle.scope_select.proofs.SubtreeLaws.{names_reached}
use Rattle.scope_select.specs.Subtrees.{entries_in_scope}

pub small_at : (schema : Set) (objects : List NamedObject) → AreSmall schema objects → (name : List Rdn)
    (object : Object) → object_at objects name ≡ Some object → object_size schema object ≤ 16384
small_at schema [] all name object is = absurd cc
small_at schema (entry ∷ entries) all name object is =
    by (is_same_name entry.name name) refl (small_at schema entries
    (All-tail (λ (one : NamedObject). object_size schema one.object ≤ 16384) entry entries all) name object)
  where
    by : (b : Bool) → is_same_name entry.name name ≡ b
        → (object_at entries name ≡ Some object → object_size schema object ≤ 16384)
        → object_size schema object ≤ 16384
    by true h rest =
        subst (λ o. object_size schema o ≤ 16384)
        (same_Some entry.object object (sym (here entry entries name h) ∙ is))
        (All-head (λ (one : NamedObject). object_size schema one.object ≤ 16384) entry entries all)
    by false h rest = rest (sym (later entry entries name h) ∙ is)

-- and so are objects that stand in it
pub all_small : (schema : Set) (objects entries : List NamedObject) → AreSmall schema objects
    → AreThere objects entries → AreSmall schema entries
all_small schema objects entries small there =
    All-from_recursion (λ (one : NamedObject). object_size schema one.object ≤ 16384) entries (each entries there)
  where
    each : (ys : List NamedObject) → AreThere objects ys
        → AllByRecursion (λ (one : NamedObject). object_size schema one.object ≤ 16384) ys
    each [] all = tt
    each (y ∷ ys) all = (small_at schema objects small y.name y.object all.0, each ys all.1)

few_names : (n : ℕ) → n ≤ 50000 → nat_le n 50000 ≡ true
few_names n h = search rules

many_names : (n : ℕ) → 50000 < n → nat_le n 50000 ≡ false
many_names n h = search rules

counted : (objects : List NamedObject) (base : List Rdn) (scope : Scope)
    → length (entries_in_scope objects base scope) ≡ length (names_in_scope objects base scope)
counted objects base scope =
    sym (length-map (entries_in_scope objects base scope) (λ (entry : NamedObject). entry.name))
    ∙ ap length (names_reached objects base scope)

pub few_told : (objects : List NamedObject) (base : List Rdn) (scope : Scope) (names : List (List Rdn))
    → length (entries_in_scope objects base scope) ≤ 50000
    → checked_by (names_fault objects base scope) names ≡ Ok names
few_told objects base scope names h =
    rw (few_names (length (names_in_scope objects base scope)) (omega (arith, counted objects base scope))) refl

pub many_told : (objects : List NamedObject) (base : List Rdn) (scope : Scope) (names : List (List Rdn))
    → 50000 < length (entries_in_scope objects base scope)
    → checked_by (names_fault objects base scope) names ≡ Err complexity_limitation
many_told objects base scope names h =
    rw (many_names (length (names_in_scope objects base scope)) (omega (arith, counted objects base scope))) refl

-- an error that is told
pub effect_error : (told : Result Effect CmisError) (refusal : OneRefusal) (error : CmisError) → refusal ≡ Cmis error
    → TellsEffect told (Err refusal) → told ≡ Err error
effect_error told refusal error is h = subst (λ r. TellsEffect told (Err r)) is h

pub checked_error : (told : Checked) (refusal : OneRefusal) (error : CmisError) → refusal ≡ Cmis error
    → TellsChecked told (Err refusal) → told ≡ Err error
checked_error told refusal error is h = subst (λ r. TellsChecked told (Err r)) is h

pub on_ok : {T E : Type 0} {P Q : Type 0} (r : Result T E) → (P → Q) → OnOk r P → OnOk r Q
on_ok (Ok x) f h = f h
on_ok (Err e) f h = tt
