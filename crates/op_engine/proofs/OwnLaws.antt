-- A Get changes nothing, and a Set its own object alone, which then is another one.
use Rattle.std.proofs.Common.{◌≡◌, ℕ, Bool, true, false, List, [], ◌∷◌, ◌++◌, map, Option, None, Some, Result, Ok, Err}
use Rattle.std.proofs.Common.{refl, sym, ap, ◌∙◌, inl, inr, if◌then◌else◌}
use Rattle.std.proofs.Math.Path.{subst}
use Rattle.term_values.specs.ResultSyntaxes.{attributes_result}
use Rattle.term_model.specs.declared.effect.Diff.{Diff}
use Rattle.term_model.specs.declared.effect.Effect.{Effect}
use Rattle.term_model.specs.declared.name.Rdn.{Rdn}
use Rattle.term_model.specs.declared.object.Attribute.{Attribute}
use Rattle.term_model.specs.declared.object.Object.{Object}
use Rattle.term_model.specs.declared.reply.CmisError.{CmisError}
use Rattle.term_model.specs.declared.reply.Reply.{Reply}
use Rattle.term_model.specs.declared.reply.Reply.TheVariants as reply
use Rattle.term_model.specs.declared.request.IdRef.{IdRef}
use Rattle.term_model.specs.declared.request.Request.{Request}
use Rattle.term_model.specs.declared.request.Request.TheVariants as request
use Rattle.term_model.specs.declared.results.AttributeValue.{AttributeValue}
use Rattle.term_model.specs.declared.results.GetInfoStatus.{GetInfoStatus}
use Rattle.term_model.specs.declared.results.SetInfoStatus.{SetInfoStatus}
use Rattle.term_model.specs.declared.results.SetInfoStatus.TheVariants as set_info
use Rattle.term_model.specs.declared.schema.AttrRec.{AttrRec}
use Rattle.term_model.specs.declared.schema.Set.{Set}
use Rattle.term_model.specs.CmisErrors.{set_list_error}
use Rattle.term_model.specs.Modifications.{Modified, modified, unmodified}
use Rattle.term_model.specs.ObjectGet.{get_effect, get_errors, given_by, got_with, told}
use Rattle.term_model.specs.ObjectOperation.{readable}
use Rattle.term_model.specs.ObjectSet.{differing, left_by, modified_attributes, patch_of, set_with, stays}
use Rattle.term_model.specs.Replies.{single}
use Rattle.term_model.specs.ResultValues.{attributes_value}
use Rattle.value_match.proofs.SameIs.{equal_same}
use Rattle.op_engine.specs.Acting.{act_of}
use Rattle.operation_model.specs.WholeOperation.{granted_at, is_atomic}
use Rattle.op_engine.proofs.OutcomeLaws.{of_result}
use Rattle.op_engine.proofs.PlanLaws.{ChangesOne, IsAlone, IsOwn}

-- ---- m-Get

got_none : (class : List ℕ) (name : List Rdn) (time : List ℕ) (given : List AttributeValue)
    (errors : List GetInfoStatus) (effect : Effect) → got_with class name time given errors ≡ Ok effect
    → effect.changes ≡ []
got_none class name time given [] effect is = sym (ap of_result is)
got_none class name time given (error ∷ errors) effect is = absurd cc

pub get_none : (schema : Set) (name : List Rdn) (object : Object) (asked : Option (List IdRef)) (time : List ℕ)
    (effect : Effect) → get_effect schema name object asked time ≡ Ok effect → effect.changes ≡ []
get_none schema name object None time effect is =
    got_none object.class name time (map (told schema.attributes) (readable schema object)) [] effect is
get_none schema name object (Some asked) time effect is =
    got_none object.class name time (map (told schema.attributes) (given_by schema object asked))
    (get_errors schema object asked) effect is

-- ---- m-Set

same_attributes : (records : List AttrRec) (attributes : List Attribute)
    → differing records attributes attributes ≡ []
same_attributes records [] = refl
same_attributes records (first ∷ others) =
    rw (equal_same first.value first.value refl) (same_attributes records others)

patch_own : (records : List AttrRec) (name : List Rdn) (before now : Object)
    → ChangesOne name before (patch_of name now (differing records before.attrs now.attrs))
patch_own records name before now = by (differing records before.attrs now.attrs) refl
  where
    by : (diffs : List Diff) → differing records before.attrs now.attrs ≡ diffs
        → ChangesOne name before (patch_of name now diffs)
    by [] is = inl refl
    by (diff ∷ diffs) is = inr (now, refl, λ same. other same)
      where
        other : before ≡ now → ⊥
        other same =
            absurd (cc (sym (same_attributes records before.attrs)
            ∙ subst (λ (o : Object). differing records before.attrs o.attrs ≡ diff ∷ diffs) (sym same) is))

ok_same : (x y : Effect) → ◌≡◌ {A = Result Effect CmisError} (Ok x) (Ok y) → x ≡ y
ok_same x y e = ap out e
  where
    out : Result Effect CmisError → Effect
    out (Ok effect) = effect
    out (Err error) = x

left_own : (schema : Set) (name : List Rdn) (before now : Object) (answer : Reply) (effect : Effect)
    → left_by schema name before now answer ≡ effect → ChangesOne name before effect.changes
left_own schema name before now answer effect is =
    subst (λ (e : Effect). ChangesOne name before e.changes) is (patch_own schema.attributes name before now)

set_own : (schema : Set) (name : List Rdn) (object : Object) (made : Modified) (atomic : Bool) (time : List ℕ)
    (failures : List SetInfoStatus) (effect : Effect)
    → set_with schema name object made atomic time failures ≡ Ok effect → ChangesOne name object effect.changes
set_own schema name object made atomic time [] effect is =
    left_own schema name object made.object
    (single attributes_result (attributes_value object.class name time (modified_attributes schema made))) effect
    (ok_same _ effect is)
set_own schema name object made atomic time (failure ∷ failures) effect is =
    by (stays atomic made.done) is
  where
    by : (b : Bool) → (if b then Ok (left_by schema name object made.object
        (reply.Error (set_list_error object.class name time
        ((failure ∷ failures) ++ map set_info.Attribute (modified_attributes schema made)))))
        else Err (set_list_error object.class name time (failure ∷ failures))) ≡ Ok effect
        → ChangesOne name object effect.changes
    by true same =
        left_own schema name object made.object
        (reply.Error (set_list_error object.class name time
        ((failure ∷ failures) ++ map set_info.Attribute (modified_attributes schema made)))) effect
        (ok_same _ effect same)
    by false same = absurd cc

-- ---- operations

pub is_own : (schema : Set) (asked : Request) (time : ℕ) → IsOwn (act_of schema asked time)
is_own schema (request.Get head ids) time objects name object effect is =
    inl (get_none schema name object ids (granted_at time) effect is)
is_own schema (request.Set head changes confirmed) time objects name object effect is =
    set_own schema name object (modified schema name (unmodified object) changes) (is_atomic head) (granted_at time)
    (modified schema name (unmodified object) changes).failures effect is
is_own schema (request.Act head action argument confirmed) time objects name object effect is = absurd cc
is_own schema (request.Create class place reference given) time objects name object effect is = absurd cc
is_own schema (request.Delete head) time objects name object effect is = absurd cc
is_own schema (request.Report class at kind when info confirmed) time objects name object effect is = absurd cc

pub is_alone : (schema : Set) (asked : Request) (time : ℕ) → IsAlone (act_of schema asked time)
is_alone schema (request.Get head ids) time one other name object = refl
is_alone schema (request.Set head changes confirmed) time one other name object = refl
is_alone schema (request.Act head action argument confirmed) time one other name object = refl
is_alone schema (request.Create class place reference given) time one other name object = refl
is_alone schema (request.Delete head) time one other name object = refl
is_alone schema (request.Report class at kind when info confirmed) time one other name object = refl
