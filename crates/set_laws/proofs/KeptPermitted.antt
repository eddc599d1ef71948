-- After a modification the values of an object that the agent doesn't write are permitted: X.722, section 8.4.
use Rattle.std.proofs.Common.{◌≡◌, ℕ, Bool, true, false, List, [], ◌∷◌, sym, ◌∙◌, subst, ap, arith}
use Rattle.std.proofs.lemmas.Bool.{and_parts, false≢true}
use Rattle.std.proofs.lemmas.List.Elements.{All-cons}
use Rattle.std.specs.Prelude.{◌||◌, ◌&&◌, All, codes}
use Rattle.value_fits.proofs.FitLaws.{fits_if}
use Rattle.term_values.specs.FitTest.{value_fits}
use Rattle.term_values.specs.Fits.{Fits}
use Rattle.term_values.specs.Syntaxes.{TypeSyntax}
use Rattle.term_values.specs.Typed.{TypedValue}
use Rattle.term_model.specs.declared.name.Rdn.{Rdn}
use Rattle.term_model.specs.declared.object.Attribute.{Attribute}
use Rattle.term_model.specs.declared.object.Object.{Object}
use Rattle.term_model.specs.declared.packages.Property.{Property}
use Rattle.term_model.specs.declared.schema.ClassRec.{ClassRec}
use Rattle.term_model.specs.declared.schema.Set.{Set}
use Rattle.term_model.specs.AgentWritten.{is_agent_written}
use Rattle.term_model.specs.BoundClasses.{is_bound_log, tells_of_records}
use Rattle.term_model.specs.ClassAttributes.{is_labelled, is_permitted}
use Rattle.term_model.specs.Inheritance.{HasRecord}
use Rattle.term_model.specs.Modifications.{with_value, without_full}
use Rattle.term_model.specs.WellFormedObjects.{IsPermitted}
use Rattle.term_model.specs.WholeSet.{IsWhole}
use Rattle.set_laws.proofs.Given.{IsGiven, tests_of}
use Rattle.set_laws.proofs.KeptValues.{by_label, with_id, with_value_all}
use Rattle.set_laws.proofs.Properties.{modifiable_is, neither, one_property}

all_permit : (permitted : List TypeSyntax) (value : TypedValue) → is_permitted permitted value ≡ true
    → All (λ (type : TypeSyntax). Fits type value) permitted
all_permit [] value e = λ i d h. absurd (omega (arith, h))
all_permit (type ∷ types) value e =
    let parts = and_parts (value_fits type value) (is_permitted types value) e in
    All-cons (λ (one : TypeSyntax). Fits one value) type types (fits_if type value parts.0)
    (all_permit types value parts.1)

-- permitted, unless the agent itself writes the attribute
abbrev pub IsRight : Set → List ℕ → ClassRec → Attribute → Type 0
IsRight schema class of_class held =
    is_agent_written schema (is_bound_log schema class) held.id ≡ false → IsPermitted of_class held

given_permitted : (schema : Set) (name : List Rdn) (object : Object) (id : List ℕ) (value : TypedValue)
    (of_class : ClassRec) → IsWhole schema → HasRecord schema object.class of_class
    → IsGiven schema name object id value → IsRight schema object.class of_class (with_id id value)
given_permitted schema name object id value of_class whole has given =
    let tests = tests_of schema object given.syntax given.property id value given.may in
    let says = modifiable_is schema name object.class given.operator id given.property given.allowed in
    λ plain property at same.
    subst (λ (one : Property). All (λ (type : TypeSyntax). Fits type value) one.permitted)
    (one_property schema object.class id of_class given.property property whole has says.1 at same)
    (all_permit given.property.permitted value tests.permitted)

-- availabilityStatus of a bound log is written by the agent
no_status : (schema : Set) (bound : Bool) (id : List ℕ) → bound ≡ true
    → is_labelled schema.attributes (codes "availabilityStatus") id ≡ true
    → is_agent_written schema bound id ≡ false → ⊥
no_status schema bound id log labelled plain =
    let last = (neither _ (bound && tells_of_records schema.attributes id) plain).1 in
    let tells : (bound && tells_of_records schema.attributes id) ≡ true =
    ap (λ b. b && tells_of_records schema.attributes id) log
    ∙ ap (λ b. b || is_labelled schema.attributes (codes "currentLogSize") id
    || is_labelled schema.attributes (codes "numberOfRecords") id) labelled in
    false≢true (sym last ∙ tells)

without_full_permitted : (schema : Set) (class : List ℕ) (of_class : ClassRec) → is_bound_log schema class ≡ true
    → (attribute : Attribute) → IsRight schema class of_class attribute
    → IsRight schema class of_class (without_full schema.attributes attribute)
without_full_permitted schema class of_class log attribute right =
    by_label (IsRight schema class of_class) schema.attributes attribute
    (λ labelled plain. absurd (no_status schema (is_bound_log schema class) attribute.id log labelled plain)) right

pub permitted_kept : (schema : Set) (name : List Rdn) (object : Object) (id : List ℕ) (value : TypedValue)
    (of_class : ClassRec) → IsWhole schema → HasRecord schema object.class of_class
    → IsGiven schema name object id value → All (IsRight schema object.class of_class) object.attrs
    → All (IsRight schema object.class of_class) (with_value schema object id value)
permitted_kept schema name object id value of_class whole has given all =
    with_value_all (IsRight schema object.class of_class) schema object id value
    (given_permitted schema name object id value of_class whole has given)
    (without_full_permitted schema object.class of_class) all
