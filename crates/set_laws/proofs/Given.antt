-- What a modification gives an attribute: it may have the value, so the value fits its syntax, is permitted and has at
-- most 8192 octets, and the object with it at most 16384. X.711, section 7.4; docs/PROFILE.md, section 15.
use Rattle.std.proofs.Common.{◌≡◌, ◌≤◌, ℕ, ℤ, pos, true, List, Option, None, Some, refl, sym, subst}
use Rattle.std.proofs.lemmas.Bool.{and_parts, leb-true}
use Rattle.std.specs.Prelude.{IfOk, IfSome, Result, Ok, Err, length, nat_le}
use Rattle.term_values.specs.FitTest.{value_fits}
use Rattle.term_values.specs.Syntaxes.{TypeSyntax}
use Rattle.term_values.specs.Typed.{TypedValue}
use Rattle.term_values.specs.Written.{der}
use Rattle.term_model.specs.declared.name.Rdn.{Rdn}
use Rattle.term_model.specs.declared.object.Attribute.{Attribute}
use Rattle.term_model.specs.declared.object.Object.{Object}
use Rattle.term_model.specs.declared.packages.Property.{Property}
use Rattle.term_model.specs.declared.request.Change.{Change}
use Rattle.term_model.specs.declared.schema.Set.{Set}
use Rattle.term_model.specs.BoundClasses.{object_size}
use Rattle.term_model.specs.ClassAttributes.{is_permitted, syntax_of}
use Rattle.term_model.specs.Modifiable.{is_operator, modifiable}
use Rattle.term_model.specs.Modifications.{attribute_of, by_attribute, by_properties, by_syntax, may_have}
use Rattle.term_model.specs.Modifications.{modified_value, replaced, tried, tried_value}
use Rattle.set_laws.proofs.Members.{either_way}

-- managers may modify the attribute so, and it may have the value
pub record IsGiven (schema : Set) (name : List Rdn) (object : Object) (id : List ℕ) (value : TypedValue) : Type 0 where
  pub operator : ℤ
  pub property : Property
  pub allowed : modifiable schema name object.class operator id ≡ Some property
  pub syntax : TypeSyntax
  pub known : syntax_of schema.attributes id ≡ Some syntax
  pub may : may_have schema object syntax property id value ≡ true

by_attribute_gives : (P : TypedValue → Type 0) (operator : ℤ) (next : Attribute → Result TypedValue ℤ)
    (found : Option Attribute) → ((held : Attribute) → IfOk (next held) P) → IfOk (by_attribute operator next found) P
by_attribute_gives P operator next None each = tt
by_attribute_gives P operator next (Some held) each =
    either_way (λ given. IfOk given P) (is_operator operator) (next held) (Err (pos 25)) (λ known. each held)
    (λ unknown. tt)

by_properties_gives : (P : TypedValue → Type 0) (next : Property → Result TypedValue ℤ) (found : Option Property)
    → ((property : Property) → found ≡ Some property → IfOk (next property) P) → IfOk (by_properties next found) P
by_properties_gives P next (Some property) each = each property refl
by_properties_gives P next None each = tt

by_syntax_gives : (P : TypedValue → Type 0) (next : TypeSyntax → Result TypedValue ℤ) (found : Option TypeSyntax)
    → ((syntax : TypeSyntax) → found ≡ Some syntax → IfOk (next syntax) P) → IfOk (by_syntax next found) P
by_syntax_gives P next (Some syntax) each = each syntax refl
by_syntax_gives P next None each = tt

module _ (schema : Set) (name : List Rdn) (object : Object) (change : Change) (id : List ℕ) (held : Attribute)
    (property : Property) (allowed : modifiable schema name object.class change.operator id ≡ Some property)
    (syntax : TypeSyntax) (known : syntax_of schema.attributes id ≡ Some syntax) where
  by_value : (given : Option TypedValue) → modified_value syntax property held.value change ≡ given
      → IfOk (tried_value schema object change id held property syntax) (IsGiven schema name object id)
  by_value None e = rw e tt
  by_value (Some value) e =
      rw e
      (either_way (λ given. IfOk given (IsGiven schema name object id))
      (may_have schema object syntax property id value) (Ok value) (Err (pos 6))
      (λ may. record {
        operator = change.operator;
        property = property;
        allowed = allowed;
        syntax = syntax;
        known = known;
        may = may;
      })
      (λ may_not. tt))

  pub value_is_given : IfOk (tried_value schema object change id held property syntax) (IsGiven schema name object id)
  value_is_given = by_value (modified_value syntax property held.value change) refl

pub is_given : (schema : Set) (name : List Rdn) (object : Object) (change : Change) (id : List ℕ)
    → IfOk (tried schema name object change id) (IsGiven schema name object id)
is_given schema name object change id =
    by_attribute_gives (IsGiven schema name object id) change.operator
    (λ held. by_properties (λ property. by_syntax (tried_value schema object change id held property)
    (syntax_of schema.attributes id)) (modifiable schema name object.class change.operator id))
    (attribute_of object.attrs id)
    (λ held. by_properties_gives (IsGiven schema name object id)
    (λ property. by_syntax (tried_value schema object change id held property) (syntax_of schema.attributes id))
    (modifiable schema name object.class change.operator id)
    (λ property allowed. by_syntax_gives (IsGiven schema name object id)
    (tried_value schema object change id held property) (syntax_of schema.attributes id)
    (λ syntax known. value_is_given schema name object change id held property allowed syntax known)))

-- ---- what is tested of it

pub record PassesTests (schema : Set) (object : Object) (id : List ℕ) (syntax : TypeSyntax) (property : Property)
    (value : TypedValue) : Type 0 where
  pub fits : value_fits syntax value ≡ true
  pub permitted : is_permitted property.permitted value ≡ true
  pub short : length (der syntax value) ≤ 8192
  pub small : object_size schema (record object { attrs = replaced id value object.attrs }) ≤ 16384

pub tests_of : (schema : Set) (object : Object) (syntax : TypeSyntax) (property : Property) (id : List ℕ)
    (value : TypedValue) → may_have schema object syntax property id value ≡ true
    → PassesTests schema object id syntax property value
tests_of schema object syntax property id value may =
    let after = record object { attrs = replaced id value object.attrs } in
    let whole = and_parts _ (nat_le (object_size schema after) 16384) may in
    let one = and_parts _ (nat_le (length (der syntax value)) 8192) whole.0 in
    let both = and_parts (value_fits syntax value) (is_permitted property.permitted value) one.0 in
    record {
      fits = both.0;
      permitted = both.1;
      short = leb-true (length (der syntax value)) 8192 one.1;
      small = leb-true (object_size schema after) 16384 whole.1;
    }

abbrev pub IsSmallIn : Set → Object → List ℕ → TypedValue → Type 0
IsSmallIn schema object id value =
    (object_size schema (record object { attrs = replaced id value object.attrs }) ≤ 16384)
    × IfSome (syntax_of schema.attributes id) (λ syntax. length (der syntax value) ≤ 8192)

pub is_small_in : (schema : Set) (name : List Rdn) (object : Object) (id : List ℕ) (value : TypedValue)
    → IsGiven schema name object id value → IsSmallIn schema object id value
is_small_in schema name object id value given =
    let tests = tests_of schema object given.syntax given.property id value given.may in (
      tests.small,
      subst (λ found. IfSome found (λ syntax. length (der syntax value) ≤ 8192)) (sym given.known) tests.short,
    )

if_ok : (P Q : TypedValue → Type 0) (told : Result TypedValue ℤ) → ((value : TypedValue) → P value → Q value)
    → IfOk told P → IfOk told Q
if_ok P Q (Ok value) leads is = leads value is
if_ok P Q (Err status) leads is = tt

pub given_is_small : (schema : Set) (name : List Rdn) (object : Object) (change : Change) (id : List ℕ)
    → IfOk (tried schema name object change id) (IsSmallIn schema object id)
given_is_small schema name object change id =
    if_ok (IsGiven schema name object id) (IsSmallIn schema object id) (tried schema name object change id)
    (is_small_in schema name object id) (is_given schema name object change id)
