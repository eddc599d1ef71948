-- After modifications the attribute by which an object is named has the value that it had: X.720, section 6; X.711,
-- section 7.4.
use Rattle.std.proofs.Common.{◌≡◌, ℕ, Bool, true, false, List, [], ◌∷◌, ◌++◌, Some, refl, sym, ◌∙◌}
use Rattle.std.proofs.Common.{subst, ap, inl, inr}
use Rattle.std.proofs.lemmas.Bool.{false≢true}
use Rattle.std.proofs.lemmas.List.{append_assoc}
use Rattle.std.specs.Option.{option_map_or}
use Rattle.std.specs.Prelude.{◌&&◌, ◌||◌, codes}
use Rattle.term_values.specs.Typed.{TypedValue}
use Rattle.term_model.specs.declared.name.Rdn.{Rdn}
use Rattle.term_model.specs.declared.object.Object.{Object}
use Rattle.term_model.specs.declared.objects.NamedObject.{NamedObject}
use Rattle.term_model.specs.declared.schema.Set.{Set}
use Rattle.term_model.specs.AgentWritten.{is_agent_written}
use Rattle.term_model.specs.BoundClasses.{is_bound_log, tells_of_records}
use Rattle.term_model.specs.ClassAttributes.{is_labelled}
use Rattle.term_model.specs.Comparing.{is_same_oid}
use Rattle.term_model.specs.Modifiable.{last_attribute, naming_attribute}
use Rattle.term_model.specs.Modifications.{unmodified}
use Rattle.term_model.specs.WellFormedObjects.{HasPart, IsGoodName}
use Rattle.set_laws.specs.KeptMaps.{NameStaysGood, under}
use Rattle.set_laws.specs.ModificationLaws.{IsNoLogStatus}
use Rattle.set_laws.proofs.Given.{IsGiven}
use Rattle.set_laws.proofs.KeptObjects.{Keeps, modified_keeps, with_given}
use Rattle.set_laws.proofs.Properties.{modifiable_is, neither}
use Rattle.set_laws.proofs.Unnamed.{same_id, with_value_leaves}

-- ---- the attribute of the last part

last_behind : (front : List Rdn) (last : Rdn) → last_attribute (front ++ last ∷ []) ≡ Some last.attribute
last_behind [] last = refl
last_behind (first ∷ []) last = refl
last_behind (first ∷ second ∷ rest) last = last_behind (second ∷ rest) last

naming_is : (schema : Set) (front : List Rdn) (last : Rdn)
    → naming_attribute schema (front ++ last ∷ []) ≡ Some last.attribute
naming_is schema front last =
    ap last_attribute (sym (append_assoc schema.system front (last ∷ []))) ∙ last_behind (schema.system ++ front) last

-- the attribute that is given a value is another one
another : (schema : Set) (name front : List Rdn) (last : Rdn) (object : Object) (id : List ℕ) (value : TypedValue)
    → name ≡ front ++ last ∷ [] → IsGiven schema name object id value → last.attribute ≡ id → ⊥
another schema name front last object id value is given same =
    let says = modifiable_is schema name object.class given.operator id given.property given.allowed in
    let names : naming_attribute schema name ≡ Some last.attribute =
    ap (naming_attribute schema) is ∙ naming_is schema front last in
    let refused : is_same_oid id last.attribute ≡ false =
    sym (ap (λ found. option_map_or (is_same_oid id) found false) names) ∙ says.0 in
    false≢true (sym refused ∙ (same_id id last.attribute).1 (sym same))

-- and is no availabilityStatus of a bound log
no_log_status : (schema : Set) (class id : List ℕ) → is_agent_written schema (is_bound_log schema class) id ≡ false
    → IsNoLogStatus schema class id
no_log_status schema class id plain = by_log (is_bound_log schema class) refl
    (neither _ (is_bound_log schema class && tells_of_records schema.attributes id) plain).1
  where
    by_log : (b : Bool) → is_bound_log schema class ≡ b
        → (is_bound_log schema class && tells_of_records schema.attributes id) ≡ false
        → IsNoLogStatus schema class id
    by_log false no_log e = inr no_log
    by_log true log e =
        let told : tells_of_records schema.attributes id ≡ false =
        sym (ap (λ b. b && tells_of_records schema.attributes id) log) ∙ e in
        let status = is_labelled schema.attributes (codes "availabilityStatus") id in
        let size = is_labelled schema.attributes (codes "currentLogSize") id in
        let number = is_labelled schema.attributes (codes "numberOfRecords") id in
        inl (neither status size (neither (status || size) number told).0).0

-- ---- the name

part_kept : (schema : Set) (objects : List NamedObject) (name : List Rdn) (object : Object) (id : List ℕ)
    (value : TypedValue) → IsGiven schema name object id value
    → (good : IsGoodName schema objects (under name object))
    → HasPart schema (with_given schema object id value) good.last
part_kept schema objects name object id value given good =
    let part = good.value in
    record {
      held = part.held;
      there =
          with_value_leaves schema object id value part.held
          (λ same. another schema name good.front good.last object id value good.is given (sym part.named ∙ same))
          (subst (IsNoLogStatus schema object.class) (sym part.named)
          (no_log_status schema object.class good.last.attribute good.plain)) part.there;
      named = part.named;
      template = part.template;
      known = part.known;
      is = part.is;
      value = part.value;
    }

name_kept : (schema : Set) (objects : List NamedObject) (name : List Rdn)
    → Keeps schema name (λ object. IsGoodName schema objects (under name object))
name_kept schema objects name object id value given good =
    record {
      front = good.front;
      last = good.last;
      is = good.is;
      deep = good.deep;
      superior = good.superior;
      there = good.there;
      binding = good.binding;
      known = good.known;
      bound = good.bound;
      subordinate = good.subordinate;
      above = good.above;
      attribute = good.attribute;
      plain = good.plain;
      value = part_kept schema objects name object id value given good;
    }

pub name_stays_good : NameStaysGood
name_stays_good schema objects name object changes (inl root) = inl root
name_stays_good schema objects name object changes (inr good) =
    inr (modified_keeps schema name (λ one. IsGoodName schema objects (under name one))
    (name_kept schema objects name) (unmodified object) changes good)
