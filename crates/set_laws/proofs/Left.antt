-- What a Set leaves otherwise than it was is the object that the modifications make: X.711, section 7.4.
use Rattle.std.proofs.Common.{◌≡◌, ℕ, Bool, List, [], ◌∷◌, Option, Some, sym, inl, inr}
use Rattle.std.specs.Prelude.{Contains, IfOk, Ok, Err, ◌++◌, map}
use Rattle.term_model.specs.declared.effect.Diff.{Diff}
use Rattle.term_model.specs.declared.effect.Effect.{Effect}
use Rattle.term_model.specs.declared.name.Rdn.{Rdn}
use Rattle.term_model.specs.declared.object.Object.{Object}
use Rattle.term_model.specs.declared.reply.Reply.{Reply}
use Rattle.term_model.specs.declared.reply.Reply.TheVariants as reply
use Rattle.term_model.specs.declared.results.SetInfoStatus.{SetInfoStatus}
use Rattle.term_model.specs.declared.results.SetInfoStatus.TheVariants as set_info
use Rattle.term_model.specs.declared.schema.Set.{Set}
use Rattle.term_model.specs.CmisErrors.{set_list_error}
use Rattle.term_model.specs.Modifications.{Modified, modified, unmodified}
use Rattle.term_model.specs.ObjectSet.{differing, left_by, modified_attributes, patch_of, set_with, stays}
use Rattle.set_laws.specs.ModificationLaws.{MadeIsLeft}
use Rattle.set_laws.proofs.Members.{either_way, first_or_later, nowhere}

in_patch : (name : List Rdn) (object : Object) (diffs : List Diff) (patch : List Rdn × Option Object)
    → Contains (patch_of name object diffs) patch → patch ≡ (name, Some object)
in_patch name object [] patch at = absurd (nowhere patch at)
in_patch name object (diff ∷ diffs) patch at =
    elim (first_or_later (name, Some object) patch [] at) [
      | inl same ↦ sym same
      | inr later ↦ absurd (nowhere patch later)
    ]

abbrev LeavesAlone : List Rdn → Object → Effect → Type 0
LeavesAlone name object effect =
    (patch : List Rdn × Option Object) → Contains effect.changes patch → patch ≡ (name, Some object)

set_leaves : (schema : Set) (name : List Rdn) (object : Object) (made : Modified) (atomic : Bool) (time : List ℕ)
    (failures : List SetInfoStatus)
    → IfOk (set_with schema name object made atomic time failures) (LeavesAlone name made.object)
set_leaves schema name object made atomic time [] =
    in_patch name made.object (differing schema.attributes object.attrs made.object.attrs)
set_leaves schema name object made atomic time (failure ∷ failures) =
    let answer : Reply = reply.Error (set_list_error object.class name time
    ((failure ∷ failures) ++ map set_info.Attribute (modified_attributes schema made))) in
    either_way (λ outcome. IfOk outcome (LeavesAlone name made.object)) (stays atomic made.done)
    (Ok (left_by schema name object made.object answer))
    (Err (set_list_error object.class name time (failure ∷ failures)))
    (λ best_effort. in_patch name made.object (differing schema.attributes object.attrs made.object.attrs))
    (λ fails. tt)

pub made_is_left : MadeIsLeft
made_is_left schema name object changes atomic time =
    let made = modified schema name (unmodified object) changes in
    set_leaves schema name object made atomic time made.failures
