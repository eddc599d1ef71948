-- Modifications leave an object of at most 16384 octets so: X.711, section 7.4; docs/PROFILE.md, section 15. The
-- availabilityStatus of a bound log doesn't count for its size.
use Rattle.std.proofs.Common.{◌≡◌, ◌≤◌, ℕ, ℤ, Bool, true, false, List, [], ◌∷◌, refl, sym, ap, ◌∙◌, subst}
use Rattle.std.proofs.lemmas.Bool.{and_parts, false≢true}
use Rattle.std.specs.Prelude.{◌&&◌, ◌||◌, IfOk, Result, Ok, Err, codes, filter, length, map, not, if◌then◌else◌}
use Rattle.term_values.specs.Typed.{TypedValue}
use Rattle.term_model.specs.declared.name.Rdn.{Rdn}
use Rattle.term_model.specs.declared.object.Attribute.{Attribute}
use Rattle.term_model.specs.declared.object.Object.{Object}
use Rattle.term_model.specs.declared.request.Change.{Change}
use Rattle.term_model.specs.declared.request.IdRef.{IdRef}
use Rattle.term_model.specs.declared.request.IdRef.TheVariants as ids
use Rattle.term_model.specs.declared.schema.Set.{Set}
use Rattle.term_model.specs.BoundClasses.{counts, is_bound_log, object_size, tells_of_records}
use Rattle.term_model.specs.ClassAttributes.{is_labelled}
use Rattle.term_model.specs.Modifications.{Modified, ends_full, modified, modified_by, replaced, settled, tried}
use Rattle.term_model.specs.Modifications.{unmodified, with_value, without_full}
use Rattle.term_model.specs.ObjectOperation.{object_octets}
use Rattle.set_laws.specs.ModificationLaws.{SizeStays}
use Rattle.set_laws.proofs.Given.{IsSmallIn, given_is_small}
use Rattle.set_laws.proofs.Members.{either_way}
use Rattle.set_laws.proofs.SameKind.{without_full_identifier}
use Rattle.set_laws.proofs.Unnamed.{without_full_leaves}

filter_skips : {X : Type 0} (p : X → Bool) (x : X) (xs : List X) → p x ≡ false → filter p (x ∷ xs) ≡ filter p xs
filter_skips p x xs fails =
    either_way (λ left. left ≡ filter p xs) (p x) (x ∷ filter p xs) (filter p xs)
    (λ passes. absurd (false≢true (sym fails ∙ passes))) (λ differs. refl)

-- availabilityStatus of a bound log doesn't count
pub status_counts_not : (schema : Set) (class id : List ℕ) → is_bound_log schema class ≡ true
    → is_labelled schema.attributes (codes "availabilityStatus") id ≡ true → counts schema class id ≡ false
status_counts_not schema class id log labelled =
    ap (λ b. not (b && tells_of_records schema.attributes id)) log
    ∙ ap (λ b. not (b || is_labelled schema.attributes (codes "currentLogSize") id
    || is_labelled schema.attributes (codes "numberOfRecords") id)) labelled

abbrev counted : Set → List ℕ → Attribute → Bool
counted schema class attribute = counts schema class attribute.id

counted_same : (schema : Set) (class : List ℕ) (attributes : List Attribute) → is_bound_log schema class ≡ true
    → filter (counted schema class) (map (without_full schema.attributes) attributes)
    ≡ filter (counted schema class) attributes
counted_same schema class [] log = refl
counted_same schema class (attribute ∷ others) log =
    by_label (is_labelled schema.attributes (codes "availabilityStatus") attribute.id) refl
    (counted_same schema class others log)
  where
    by_label : (b : Bool) → is_labelled schema.attributes (codes "availabilityStatus") attribute.id ≡ b
        → filter (counted schema class) (map (without_full schema.attributes) others)
        ≡ filter (counted schema class) others
        → filter (counted schema class) (map (without_full schema.attributes) (attribute ∷ others))
        ≡ filter (counted schema class) (attribute ∷ others)
    by_label true labelled later =
        let left = without_full schema.attributes attribute in
        let silent = status_counts_not schema class attribute.id log labelled in
        let also = subst (λ id. counts schema class id ≡ false)
        (sym (without_full_identifier schema.attributes attribute)) silent in
        filter_skips (counted schema class) left (map (without_full schema.attributes) others) also
        ∙ (later ∙ sym (filter_skips (counted schema class) attribute others silent))
    by_label false other later =
        ap (λ first. filter (counted schema class) (first ∷ map (without_full schema.attributes) others))
        (without_full_leaves schema.attributes attribute other)
        ∙ ap (λ rest. if counted schema class attribute then attribute ∷ rest else rest) later

pub with_value_small : (schema : Set) (object : Object) (id : List ℕ) (value : TypedValue)
    → object_size schema (record object { attrs = replaced id value object.attrs }) ≤ 16384
    → object_size schema (record object { attrs = with_value schema object id value }) ≤ 16384
with_value_small schema object id value small =
    either_way (λ made. object_size schema (record object { attrs = made }) ≤ 16384)
    (ends_full schema object.class id) (map (without_full schema.attributes) (replaced id value object.attrs))
    (replaced id value object.attrs)
    (λ full. subst (λ made. length (object_octets schema.attributes (record object { attrs = made })) ≤ 16384)
    (sym (counted_same schema object.class (replaced id value object.attrs)
    (and_parts _ (is_bound_log schema object.class) full).1)) small)
    (λ differs. small)

settled_small : (schema : Set) (made : Modified) (change : Change) (id : List ℕ) (value : Result TypedValue ℤ)
    → IfOk value (IsSmallIn schema made.object id) → object_size schema made.object ≤ 16384
    → object_size schema (settled schema made change id value).object ≤ 16384
settled_small schema made change id (Err status) given small = small
settled_small schema made change id (Ok value) given small = with_value_small schema made.object id value given.0

modified_by_small : (schema : Set) (name : List Rdn) (made : Modified) (change : Change) (id : IdRef)
    → object_size schema made.object ≤ 16384
    → object_size schema (modified_by schema name made change id).object ≤ 16384
modified_by_small schema name made change (ids.Global id) small =
    settled_small schema made change id (tried schema name made.object change id)
    (given_is_small schema name made.object change id) small
modified_by_small schema name made change (ids.Local number) small = small

modified_small : (schema : Set) (name : List Rdn) (made : Modified) (changes : List Change)
    → object_size schema made.object ≤ 16384 → object_size schema (modified schema name made changes).object ≤ 16384
modified_small schema name made [] small = small
modified_small schema name made (change ∷ changes) small =
    modified_small schema name (modified_by schema name made change change.id) changes
    (modified_by_small schema name made change change.id small)

pub size_stays : SizeStays
size_stays schema name object changes small = modified_small schema name (unmodified object) changes small
