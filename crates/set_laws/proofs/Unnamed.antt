-- An attribute that no modification names stands in the object with the value that it had: X.711, section 7.4.
use Rattle.std.proofs.Common.{◌≡◌, ℕ, ℤ, false, List, [], ◌∷◌, refl, sym, ap, ◌∙◌, subst, inl, inr}
use Rattle.std.proofs.lemmas.Bool.{and_parts, false≢true}
use Rattle.std.proofs.lemmas.Slice.Eq.{bytes_eq-Decides}
use Rattle.std.specs.Prelude.{Contains, Decides, Result, Ok, Err, codes, map}
use Rattle.term_values.specs.Typed.{TypedValue}
use Rattle.term_model.specs.declared.name.Rdn.{Rdn}
use Rattle.term_model.specs.declared.object.Attribute.{Attribute}
use Rattle.term_model.specs.declared.object.Object.{Object}
use Rattle.term_model.specs.declared.request.Change.{Change}
use Rattle.term_model.specs.declared.request.IdRef.{IdRef}
use Rattle.term_model.specs.declared.request.IdRef.TheVariants as ids
use Rattle.term_model.specs.declared.schema.AttrRec.{AttrRec}
use Rattle.term_model.specs.declared.schema.Set.{Set}
use Rattle.term_model.specs.BoundClasses.{is_bound_log}
use Rattle.term_model.specs.ClassAttributes.{is_labelled}
use Rattle.term_model.specs.Comparing.{is_same_oid}
use Rattle.term_model.specs.Modifications.{Modified, ends_full, modified, modified_by, replaced, settled, tried}
use Rattle.term_model.specs.Modifications.{unmodified, with_value, without_full}
use Rattle.set_laws.specs.ModificationLaws.{IsNamed, IsNoLogStatus, UnnamedStays}
use Rattle.set_laws.proofs.SameKind.{lessened, modified_by_stays}
use Rattle.set_laws.proofs.Members.{either_way, first_or_later, here, joined, map_gets, nowhere, there}

pub same_id : (a b : List ℕ) → Decides (is_same_oid a b) (a ≡ b)
same_id a b = bytes_eq-Decides a b

replaced_leaves : (id : List ℕ) (value : TypedValue) (attributes : List Attribute) (attribute : Attribute)
    → (attribute.id ≡ id → ⊥) → Contains attributes attribute → Contains (replaced id value attributes) attribute
replaced_leaves id value [] attribute other at = absurd (nowhere attribute at)
replaced_leaves id value (first ∷ others) attribute other at =
    either_way (λ made. Contains made attribute) (is_same_oid first.id id)
    (record first { value = value } ∷ others) (first ∷ replaced id value others)
    (λ same. elim (first_or_later first attribute others at) [
      | inl is ↦ absurd (other (sym (ap (λ (a : Attribute). a.id) is) ∙ (same_id first.id id).0 same))
      | inr later ↦ there (record first { value = value }) attribute others later
    ])
    (λ differs. elim (first_or_later first attribute others at) [
      | inl is ↦ joined first attribute (replaced id value others) (inl is)
      | inr later ↦ there first attribute (replaced id value others)
          (replaced_leaves id value others attribute other later)
    ])

pub without_full_leaves : (records : List AttrRec) (attribute : Attribute)
    → is_labelled records (codes "availabilityStatus") attribute.id ≡ false
    → without_full records attribute ≡ attribute
without_full_leaves records attribute other =
    either_way (λ made. made ≡ attribute) (is_labelled records (codes "availabilityStatus") attribute.id)
    (lessened records attribute) attribute
    (λ labelled. absurd (false≢true (sym other ∙ labelled))) (λ differs. refl)

pub with_value_leaves : (schema : Set) (object : Object) (id : List ℕ) (value : TypedValue) (attribute : Attribute)
    → (attribute.id ≡ id → ⊥) → IsNoLogStatus schema object.class attribute.id → Contains object.attrs attribute
    → Contains (with_value schema object id value) attribute
with_value_leaves schema object id value attribute other no_status at =
    either_way (λ made. Contains made attribute) (ends_full schema object.class id)
    (map (without_full schema.attributes) (replaced id value object.attrs)) (replaced id value object.attrs)
    (λ full. elim no_status [
      | inl differs ↦ subst (Contains (map (without_full schema.attributes) (replaced id value object.attrs)))
          (without_full_leaves schema.attributes attribute differs)
          (map_gets (without_full schema.attributes) (replaced id value object.attrs) attribute stands)
      | inr no_log ↦ absurd (false≢true (sym no_log ∙ (and_parts _ (is_bound_log schema object.class) full).1))
    ])
    (λ differs. stands)
  where
    stands : Contains (replaced id value object.attrs) attribute
    stands = replaced_leaves id value object.attrs attribute other at

settled_leaves : (schema : Set) (made : Modified) (change : Change) (id : List ℕ) (value : Result TypedValue ℤ)
    (attribute : Attribute) → (attribute.id ≡ id → ⊥) → IsNoLogStatus schema made.object.class attribute.id
    → Contains made.object.attrs attribute → Contains (settled schema made change id value).object.attrs attribute
settled_leaves schema made change id (Err status) attribute other no_status at = at
settled_leaves schema made change id (Ok value) attribute other no_status at =
    with_value_leaves schema made.object id value attribute other no_status at

modified_by_leaves : (schema : Set) (name : List Rdn) (made : Modified) (change : Change) (id : IdRef)
    (attribute : Attribute) → (id ≡ ids.Global attribute.id → ⊥)
    → IsNoLogStatus schema made.object.class attribute.id → Contains made.object.attrs attribute
    → Contains (modified_by schema name made change id).object.attrs attribute
modified_by_leaves schema name made change (ids.Global id) attribute other no_status at =
    settled_leaves schema made change id (tried schema name made.object change id) attribute
    (λ same. other (ap (λ (i : List ℕ). ids.Global i) (sym same))) no_status at
modified_by_leaves schema name made change (ids.Local number) attribute other no_status at = at

modified_leaves : (schema : Set) (name : List Rdn) (made : Modified) (changes : List Change) (attribute : Attribute)
    → (IsNamed changes attribute.id → ⊥) → IsNoLogStatus schema made.object.class attribute.id
    → Contains made.object.attrs attribute → Contains (modified schema name made changes).object.attrs attribute
modified_leaves schema name made [] attribute other no_status at = at
modified_leaves schema name made (change ∷ changes) attribute other no_status at =
    let next = modified_by schema name made change change.id in
    let class = (modified_by_stays schema name made change change.id).1 in
    modified_leaves schema name next changes attribute
    (λ named. other (named.0, there change named.0 changes named.1, named.2))
    (subst (λ c. IsNoLogStatus schema c attribute.id) (sym class) no_status)
    (modified_by_leaves schema name made change change.id attribute
    (λ same. other (change, here change changes, same)) no_status at)

pub unnamed_stays : UnnamedStays
unnamed_stays schema name object changes attribute at other no_status =
    modified_leaves schema name (unmodified object) changes attribute other no_status at
