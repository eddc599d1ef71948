-- A Get changes nothing, and a Set its own object alone, which keeps its class.
use Rattle.std.proofs.Common.{◌≡◌, ◌⊎◌, ℕ, ℤ, Bool, true, false, List, [], ◌∷◌, ◌++◌, map, Option, None, Some, Result}
use Rattle.std.proofs.Common.{Ok, Err}
use Rattle.std.proofs.Common.{refl, sym, ap, ◌∙◌, inl, inr, if◌then◌else◌, subst}
use Rattle.term_values.specs.ResultSyntaxes.{attributes_result}
use Rattle.term_values.specs.Typed.{TypedValue}
use Rattle.term_model.specs.declared.effect.Diff.{Diff}
use Rattle.term_model.specs.declared.effect.Effect.{Effect}
use Rattle.term_model.specs.declared.name.Rdn.{Rdn}
use Rattle.term_model.specs.declared.object.Object.{Object}
use Rattle.term_model.specs.declared.reply.CmisError.{CmisError}
use Rattle.term_model.specs.declared.reply.Reply.{Reply}
use Rattle.term_model.specs.declared.reply.Reply.TheVariants as reply
use Rattle.term_model.specs.declared.request.Change.{Change}
use Rattle.term_model.specs.declared.request.IdRef.{IdRef}
use Rattle.term_model.specs.declared.request.IdRef.TheVariants as ids
use Rattle.term_model.specs.declared.results.AttributeValue.{AttributeValue}
use Rattle.term_model.specs.declared.results.GetInfoStatus.{GetInfoStatus}
use Rattle.term_model.specs.declared.results.SetInfoStatus.{SetInfoStatus}
use Rattle.term_model.specs.declared.results.SetInfoStatus.TheVariants as set_info
use Rattle.term_model.specs.declared.schema.Set.{Set}
use Rattle.term_model.specs.CmisErrors.{set_list_error}
use Rattle.term_model.specs.Modifications.{Modified, modified, modified_by, settled, tried, unmodified}
use Rattle.term_model.specs.ObjectGet.{get_effect, get_errors, given_by, got_with, told}
use Rattle.term_model.specs.ObjectOperation.{readable}
use Rattle.term_model.specs.ObjectSet.{differing, left_by, modified_attributes, patch_of, set_effect, set_with, stays}
use Rattle.term_model.specs.Replies.{single}
use Rattle.term_model.specs.ResultValues.{attributes_value}
use Rattle.operation_model.specs.WholeOperation.{Changed}

-- no change, or one of the object of this name, which has the class
abbrev pub IsOwnChange : List Rdn → Object → Changed → Type 0
IsOwnChange name before changes =
    (changes ≡ []) ⊎ ((now : Object) × (changes ≡ (name, Some now) ∷ []) × (now.class ≡ before.class))

ok_same : (x y : Effect) → ◌≡◌ {A = Result Effect CmisError} (Ok x) (Ok y) → x ≡ y
ok_same x y e = ap out e
  where
    out : Result Effect CmisError → Effect
    out (Ok effect) = effect
    out (Err error) = x

got_none : (class : List ℕ) (name : List Rdn) (time : List ℕ) (given : List AttributeValue)
    (errors : List GetInfoStatus) (effect : Effect) → got_with class name time given errors ≡ Ok effect
    → effect.changes ≡ []
got_none class name time given [] effect is =
    sym (ap (λ (e : Effect). e.changes) (ok_same _ effect is))
got_none class name time given (error ∷ errors) effect is = absurd cc

pub get_none : (schema : Set) (name : List Rdn) (object : Object) (asked : Option (List IdRef)) (time : List ℕ)
    (effect : Effect) → get_effect schema name object asked time ≡ Ok effect → effect.changes ≡ []
get_none schema name object None time effect is =
    got_none object.class name time (map (told schema.attributes) (readable schema object)) [] effect is
get_none schema name object (Some asked) time effect is =
    got_none object.class name time (map (told schema.attributes) (given_by schema object asked))
    (get_errors schema object asked) effect is

-- modifications keep the class
settled_class : (schema : Set) (made : Modified) (change : Change) (id : List ℕ) (value : Result TypedValue ℤ)
    → (settled schema made change id value).object.class ≡ made.object.class
settled_class schema made change id (Err status) = refl
settled_class schema made change id (Ok value) = refl

modified_by_class : (schema : Set) (name : List Rdn) (made : Modified) (change : Change) (id : IdRef)
    → (modified_by schema name made change id).object.class ≡ made.object.class
modified_by_class schema name made change (ids.Global id) =
    settled_class schema made change id (tried schema name made.object change id)
modified_by_class schema name made change (ids.Local number) = refl

pub modified_class : (schema : Set) (name : List Rdn) (made : Modified) (changes : List Change)
    → (modified schema name made changes).object.class ≡ made.object.class
modified_class schema name made [] = refl
modified_class schema name made (change ∷ changes) =
    modified_class schema name (modified_by schema name made change change.id) changes
    ∙ modified_by_class schema name made change change.id

patch_own : (name : List Rdn) (before now : Object) (diffs : List Diff) → now.class ≡ before.class
    → IsOwnChange name before (patch_of name now diffs)
patch_own name before now [] class = inl refl
patch_own name before now (diff ∷ diffs) class = inr (now, refl, class)

left_own : (schema : Set) (name : List Rdn) (before now : Object) (answer : Reply) (effect : Effect)
    → now.class ≡ before.class → left_by schema name before now answer ≡ effect
    → IsOwnChange name before effect.changes
left_own schema name before now answer effect class is =
    subst (λ (e : Effect). IsOwnChange name before e.changes) is
    (patch_own name before now (differing schema.attributes before.attrs now.attrs) class)

set_own : (schema : Set) (name : List Rdn) (object : Object) (made : Modified) (atomic : Bool) (time : List ℕ)
    (failures : List SetInfoStatus) (effect : Effect) → made.object.class ≡ object.class
    → set_with schema name object made atomic time failures ≡ Ok effect → IsOwnChange name object effect.changes
set_own schema name object made atomic time [] effect class is =
    left_own schema name object made.object
    (single attributes_result (attributes_value object.class name time (modified_attributes schema made))) effect class
    (ok_same _ effect is)
set_own schema name object made atomic time (failure ∷ failures) effect class is =
    by (stays atomic made.done) is
  where
    by : (b : Bool) → (if b then Ok (left_by schema name object made.object
        (reply.Error (set_list_error object.class name time
        ((failure ∷ failures) ++ map set_info.Attribute (modified_attributes schema made)))))
        else Err (set_list_error object.class name time (failure ∷ failures))) ≡ Ok effect
        → IsOwnChange name object effect.changes
    by true same =
        left_own schema name object made.object
        (reply.Error (set_list_error object.class name time
        ((failure ∷ failures) ++ map set_info.Attribute (modified_attributes schema made)))) effect class
        (ok_same _ effect same)
    by false same = absurd cc

pub set_is_own : (schema : Set) (name : List Rdn) (object : Object) (changes : List Change) (atomic : Bool)
    (time : List ℕ) (effect : Effect) → set_effect schema name object changes atomic time ≡ Ok effect
    → IsOwnChange name object effect.changes
set_is_own schema name object changes atomic time effect is =
    set_own schema name object (modified schema name (unmodified object) changes) atomic time
    (modified schema name (unmodified object) changes).failures effect
    (modified_class schema name (unmodified object) changes) is
