-- What modifications leave of an object as it was: X.711, section 7.4, m-Set; docs/PROFILE.md, section 15. What they
-- make is in Modifications of term_model, what a Set does in ObjectSet.
use Rattle.std.specs.Prelude.{◌≡◌, ◌≤◌, ◌⊎◌, ℕ, Bool, true, false, List, Option, Some, All, Contains, IfOk, IfSome}
use Rattle.std.specs.Prelude.{codes, length}
use Rattle.term_values.specs.Written.{der}
use Rattle.term_model.specs.declared.name.Rdn.{Rdn}
use Rattle.term_model.specs.declared.object.Attribute.{Attribute}
use Rattle.term_model.specs.declared.object.Object.{Object}
use Rattle.term_model.specs.declared.request.Change.{Change}
use Rattle.term_model.specs.declared.request.IdRef.TheVariants as ids
use Rattle.term_model.specs.declared.schema.Set.{Set}
use Rattle.term_model.specs.BoundClasses.{counts, is_bound_log, object_size}
use Rattle.term_model.specs.ClassAttributes.{is_labelled, syntax_of}
use Rattle.term_model.specs.Modifications.{modified, unmodified}
use Rattle.term_model.specs.ObjectSet.{set_effect}
use Rattle.term_model.specs.ObjectAttributes.{identifiers}

-- a modification names the attribute, by its identifier
abbrev pub IsNamed : List Change → List ℕ → Type 0
IsNamed changes id = (change : Change) × Contains changes change × (change.id ≡ ids.Global id)

-- it isn't availabilityStatus of a log, out of which logFull may be taken when another attribute is modified
abbrev pub IsNoLogStatus : Set → List ℕ → List ℕ → Type 0
IsNoLogStatus schema class id =
    (is_labelled schema.attributes (codes "availabilityStatus") id ≡ false) ⊎ (is_bound_log schema class ≡ false)

-- the object that modifications make, where none were made before
abbrev pub made_of : Set → List Rdn → Object → List Change → Object
made_of schema name object changes = (modified schema name (unmodified object) changes).object

-- an attribute that no modification names stands in the object with the value that it had
abbrev pub UnnamedStays : Type 0
UnnamedStays = (schema : Set) (name : List Rdn) (object : Object) (changes : List Change) (attribute : Attribute) →
    Contains object.attrs attribute → (IsNamed changes attribute.id → ⊥) →
    IsNoLogStatus schema object.class attribute.id → Contains (made_of schema name object changes).attrs attribute

-- the attributes are the same as before, in their order
abbrev pub IdentifiersStay : Type 0
IdentifiersStay = (schema : Set) (name : List Rdn) (object : Object) (changes : List Change) →
    identifiers (made_of schema name object changes).attrs ≡ identifiers object.attrs

-- the same class, by the same name binding and with the same packages
abbrev pub KindStays : Type 0
KindStays = (schema : Set) (name : List Rdn) (object : Object) (changes : List Change) →
    let made = made_of schema name object changes in
    (made.class ≡ object.class) × (made.binding ≡ object.binding) × (made.chosen ≡ object.chosen)

-- what a Set leaves otherwise than it was is the object that the modifications make, under its name
abbrev pub MadeIsLeft : Type 0
MadeIsLeft = (schema : Set) (name : List Rdn) (object : Object) (changes : List Change) (atomic : Bool)
    (time : List ℕ) →
    IfOk (set_effect schema name object changes atomic time) (λ effect.
    (patch : List Rdn × Option Object) → Contains effect.changes patch →
    patch ≡ (name, Some (made_of schema name object changes)))

-- the value of an attribute that counts for the size of its object has at most 8192 octets
abbrev pub HasShortValue : Set → List ℕ → Attribute → Type 0
HasShortValue schema class held = counts schema class held.id ≡ true →
    IfSome (syntax_of schema.attributes held.id) (λ syntax. length (der syntax held.value) ≤ 8192)

-- an object of at most 16384 octets has no more afterwards
abbrev pub SizeStays : Type 0
SizeStays = (schema : Set) (name : List Rdn) (object : Object) (changes : List Change) →
    object_size schema object ≤ 16384 → object_size schema (made_of schema name object changes) ≤ 16384

-- where each value has at most 8192 octets, each has no more afterwards
abbrev pub ValuesStayShort : Type 0
ValuesStayShort = (schema : Set) (name : List Rdn) (object : Object) (changes : List Change) →
    All (HasShortValue schema object.class) object.attrs →
    All (HasShortValue schema object.class) (made_of schema name object changes).attrs
