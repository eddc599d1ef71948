-- One identifier of a Get's list.
use Rattle.std.proofs.Common.{◌≡◌, Bool, true, false, List, [], ◌∷◌, ◌++◌, ◌||◌, refl, sym, ap, ◌∙◌, append_assoc, subst}
use Rattle.std.specs.Prelude.{Result}
use Rattle.term_model.specs.declared.effect.Effect.{Effect}
use Rattle.term_model.specs.declared.effect.OneRefusal.{OneRefusal}
use Rattle.term_model.specs.declared.name.Rdn.{Rdn}
use Rattle.term_model.specs.declared.results.AttributeValue.{AttributeValue}
use Rattle.term_model.specs.Effects.{TellsEffect}
use Rattle.std.specs.Prelude.{ℕ, filter, map, not, if◌then◌else◌}
use Rattle.std.specs.BTreeSet.{BTreeSet}
use Rattle.std.specs.List.{list_any}
use Rattle.term_model.specs.declared.request.IdRef.{IdRef}
use Rattle.term_model.specs.declared.results.GetInfoStatus.{GetInfoStatus}
use Rattle.term_model.specs.declared.object.Attribute.{Attribute}
use Rattle.term_model.specs.declared.object.Object.{Object}
use Rattle.term_model.specs.declared.request.IdRef.TheVariants as ids
use Rattle.term_model.specs.declared.schema.Set.{Set}
use Rattle.term_model.specs.ObjectGet.{asks_for, get_errors, given_by, got_with, has_attribute, is_of_object, is_same_id, is_used}
use Rattle.term_model.specs.ObjectGet.{not_before, not_readable, not_there, told, uses_of}
use Rattle.term_model.specs.ObjectOperation.{is_readable}
use Rattle.op_object.specs.GetSteps.{absent_errors, absent_of, denied_errors, is_there, values_given}
use Rattle.op_object.specs.IdSets.{has_id}

-- the errors from an identifier on are its own and those behind it
pub absent_step : (held used : BTreeSet (List ℕ)) (before : List IdRef) (id : IdRef) (rest : List IdRef)
    → absent_errors held used before (id ∷ rest)
    ≡ absent_of (list_any (λ (earlier : IdRef). is_same_id earlier id) before) (is_there held used id) id
    ++ absent_errors held used (id ∷ before) rest
absent_step held used before id rest =
    by_tests (list_any (λ (earlier : IdRef). is_same_id earlier id) before) (is_there held used id) refl
  where
    others : List IdRef
    others = not_before (id ∷ before) rest

    by_tests : (came there : Bool) → is_there held used id ≡ there
        → map not_there (filter (λ (x : IdRef). not (is_there held used x)) (if came then others else id ∷ others))
        ≡ absent_of came there id ++ map not_there (filter (λ (x : IdRef). not (is_there held used x)) others)
    by_tests true there e = refl
    by_tests false true e = rw e refl
    by_tests false false e = rw e refl

-- with the errors so far
pub absent_more : (held used : BTreeSet (List ℕ)) (before : List IdRef) (id : IdRef) (here rest : List IdRef)
    → (errors more whole : List GetInfoStatus) (came : Bool)
    → whole ≡ errors ++ absent_errors held used before here → here ≡ id ∷ rest
    → came ≡ list_any (λ (earlier : IdRef). is_same_id earlier id) before
    → more ≡ errors ++ absent_of came (is_there held used id) id
    → whole ≡ more ++ absent_errors held used (id ∷ before) rest
absent_more held used before id here rest errors more whole came h at seen e =
    let others = absent_errors held used (id ∷ before) rest in
    h ∙ ap (λ xs. errors ++ absent_errors held used before xs) at
    ∙ ap (λ xs. errors ++ xs)
    (absent_step held used before id rest ∙ ap (λ b. absent_of b (is_there held used id) id ++ others) (sym seen))
    ∙ sym (append_assoc errors (absent_of came (is_there held used id) id) others) ∙ ap (λ xs. xs ++ others) (sym e)

module _ (schema : Set) (object : Object) (asked : List IdRef) (held used wanted readable : BTreeSet (List ℕ))
    (of_held : (q : List ℕ) → has_id held q ≡ has_attribute object.attrs q)
    (of_used : (q : List ℕ) → has_id used q ≡ is_used (uses_of schema object) q)
    (of_wanted : (q : List ℕ) → has_id wanted q ≡ asks_for schema (uses_of schema object) asked q)
    (of_readable : (q : List ℕ) → has_id readable q ≡ is_readable schema object.class q) where
  there : (id : IdRef) → is_there held used id ≡ is_of_object (uses_of schema object) object.attrs id
  there (ids.Global q) = λ i. of_held q i || of_used q i
  there (ids.Local number) = refl

  pub given_by_sets :
      values_given schema.attributes wanted readable object.attrs
      ≡ map (told schema.attributes) (given_by schema object asked)
  given_by_sets = λ i.
      map (told schema.attributes)
      (filter (λ (attribute : Attribute). of_readable attribute.id i)
      (filter (λ (attribute : Attribute). of_wanted attribute.id i) object.attrs))

  pub errors_by_sets :
      absent_errors held used [] asked ++ denied_errors wanted readable object.attrs ≡ get_errors schema object asked
  errors_by_sets = λ i.
      map not_there (filter (λ (id : IdRef). not (there id i)) (not_before [] asked))
      ++ map not_readable
      (filter (λ (attribute : Attribute). not (of_readable attribute.id i))
      (filter (λ (attribute : Attribute). of_wanted attribute.id i) object.attrs))

pub tells_same : (class : List ℕ) (name : List Rdn) (time : List ℕ) (given given' : List AttributeValue)
    (errors errors' : List GetInfoStatus) (told : Result Effect OneRefusal) → given ≡ given' → errors ≡ errors'
    → TellsEffect (got_with class name time given errors) told
    → TellsEffect (got_with class name time given' errors') told
tells_same class name time given given' errors errors' told e f h =
    subst (λ xs. TellsEffect (got_with class name time xs errors') told) e
    (subst (λ xs. TellsEffect (got_with class name time given xs) told) f h)
