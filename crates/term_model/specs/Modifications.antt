-- What modifications make of the attributes of an object: X.711, section 7.4, m-Set, and section 7.5, type
-- ModifyOperator; docs/PROFILE.md, section 15. They are made in the order of their list, each on what those before it
-- left.
use Rattle.std.specs.Prelude.{ℕ, ℤ, pos, List, [], ◌∷◌, ◌++◌, Bool, ◌&&◌, ◌||◌, Option, None, Some}
use Rattle.std.specs.Prelude.{Result, Ok, Err, codes, find, length, map, nat_le, option_and_then}
use Rattle.std.specs.Prelude.{if◌then◌else◌}
use Rattle.std.specs.Option.{option_map, option_map_or}
use Rattle.std.specs.Ordering.{int_eq}
use Rattle.term_values.specs.Syntaxes.{TypeSyntax}
use Rattle.term_values.specs.Typed.{TypedValue}
use Rattle.term_values.specs.Typed.TypedValue.{Int, Many}
use Rattle.term_values.specs.Typed.TypedValues.{Nothing, Then}
use Rattle.term_values.specs.Written.{der}
use Rattle.term_model.specs.declared.filter_item.Given.{Given}
use Rattle.term_model.specs.declared.name.Rdn.{Rdn}
use Rattle.term_model.specs.declared.object.Attribute.{Attribute}
use Rattle.term_model.specs.declared.object.Object.{Object}
use Rattle.term_model.specs.declared.packages.Property.{Property}
use Rattle.term_model.specs.declared.request.Change.{Change}
use Rattle.term_model.specs.declared.request.IdRef.{IdRef}
use Rattle.term_model.specs.declared.request.IdRef.TheVariants as ids
use Rattle.term_model.specs.declared.results.SetInfoStatus.{SetInfoStatus}
use Rattle.term_model.specs.declared.results.SetInfoStatus.TheVariants as set_info
use Rattle.term_model.specs.declared.schema.AttrRec.{AttrRec}
use Rattle.term_model.specs.declared.schema.Set.{Set}
use Rattle.term_model.specs.Comparing.{is_same_oid}
use Rattle.term_model.specs.Modifiable.{is_operator, modifiable}
use Rattle.term_model.specs.ObjectAttributes.{most_object, most_value}
use Rattle.term_model.specs.BoundClasses.{is_bound_log, object_size}
use Rattle.term_model.specs.ClassAttributes.{is_labelled, is_permitted, syntax_of}
use Rattle.term_values.specs.FitTest.{value_fits}
use Rattle.term_values.specs.SetMembers.{with_members, without_members}

-- the value that came with a modification, where it is one of the attribute's syntax
abbrev pub given_value : Change → Option TypedValue
given_value change = option_and_then (λ (given : Given). given.value) change.given

-- the value that an attribute is to have by a modification, where one is told
abbrev pub modified_value : TypeSyntax → Property → TypedValue → Change → Option TypedValue
modified_value syntax property held change =
    if int_eq change.operator (pos 0) then given_value change
    else (if int_eq change.operator (pos 1) then option_map (with_members syntax held) (given_value change)
    else (if int_eq change.operator (pos 2) then option_map (without_members syntax held) (given_value change)
    else property.default))

-- attributes, of which the one with the identifier has another value
abbrev pub replaced : List ℕ → TypedValue → List Attribute → List Attribute
replaced id value [] = []
replaced id value (attribute ∷ others) =
    if is_same_oid attribute.id id then record attribute { value = value } ∷ others
    else attribute ∷ replaced id value others

-- the attribute may have the value: it fits its syntax, is permitted, and is not too long, and the object isn't with it
abbrev pub may_have : Set → Object → TypeSyntax → Property → List ℕ → TypedValue → Bool
may_have schema object syntax property id value =
    value_fits syntax value && is_permitted property.permitted value && nat_le (length (der syntax value)) most_value
    && nat_le (object_size schema (record object { attrs = replaced id value object.attrs })) most_object

-- the value that a modification gives an attribute with these properties, or invalidAttributeValue 6
abbrev pub tried_value : Set → Object → Change → List ℕ → Attribute → Property → TypeSyntax → Result TypedValue ℤ
tried_value schema object change id held property syntax =
    checked (modified_value syntax property held.value change)
  where
    checked : Option TypedValue → Result TypedValue ℤ
    checked None = Err (pos 6)
    checked (Some value) =
        if may_have schema object syntax property id value then Ok value else Err (pos 6)

abbrev pub by_syntax : (TypeSyntax → Result TypedValue ℤ) → Option TypeSyntax → Result TypedValue ℤ
by_syntax next (Some syntax) = next syntax
by_syntax next None = Err (pos 6)

-- invalidOperation 24, where managers may not modify the attribute so
abbrev pub by_properties : (Property → Result TypedValue ℤ) → Option Property → Result TypedValue ℤ
by_properties next (Some property) = next property
by_properties next None = Err (pos 24)

-- noSuchAttribute 5, then invalidOperator 25
abbrev pub by_attribute : ℤ → (Attribute → Result TypedValue ℤ) → Option Attribute → Result TypedValue ℤ
by_attribute operator next None = Err (pos 5)
by_attribute operator next (Some held) = if is_operator operator then next held else Err (pos 25)

abbrev pub attribute_of : List Attribute → List ℕ → Option Attribute
attribute_of attributes id = find (λ (attribute : Attribute). is_same_oid attribute.id id) attributes

-- the value that a modification gives the attribute, or the number of the error by which it fails
abbrev pub tried : Set → List Rdn → Object → Change → List ℕ → Result TypedValue ℤ
tried schema name object change id =
    by_attribute change.operator
    (λ held.
    by_properties
    (λ property. by_syntax (tried_value schema object change id held property) (syntax_of schema.attributes id))
    (modifiable schema name object.class change.operator id))
    (attribute_of object.attrs id)

-- availabilityStatus without logFull 8
abbrev pub without_full : List AttrRec → Attribute → Attribute
without_full records attribute =
    if is_labelled records (codes "availabilityStatus") attribute.id
    then record attribute {
      value =
          option_map_or
          (λ syntax. without_members syntax attribute.value (Many (Then (Int (pos 8)) Nothing)))
          (syntax_of records attribute.id) attribute.value;
    }
    else attribute

-- setting maxLogSize or logFullAction of a bound log takes logFull away
abbrev pub ends_full : Set → List ℕ → List ℕ → Bool
ends_full schema class id =
    (is_labelled schema.attributes (codes "maxLogSize") id || is_labelled schema.attributes (codes "logFullAction") id)
    && is_bound_log schema class

abbrev pub with_value : Set → Object → List ℕ → TypedValue → List Attribute
with_value schema object id value =
    if ends_full schema object.class id
    then map (without_full schema.attributes) (replaced id value object.attrs)
    else replaced id value object.attrs

-- what modifications have made so far: the object, the errors of those that failed, in their order, and the attributes
-- of those that did not
pub record Modified : Type 0 where
  pub object : Object
  pub failures : List SetInfoStatus
  pub done : List (List ℕ)

abbrev pub failed : Modified → Change → ℤ → Modified
failed made change status =
    record made { failures = made.failures ++ set_info.Error status change.operator change.id ∷ [] }

abbrev pub settled : Set → Modified → Change → List ℕ → Result TypedValue ℤ → Modified
settled schema made change id (Err status) = failed made change status
settled schema made change id (Ok value) = record made {
  object = record made.object { attrs = with_value schema made.object id value };
  done = made.done ++ id ∷ [];
}

-- one modification; an attribute named in localForm is none of the object's
abbrev pub modified_by : Set → List Rdn → Modified → Change → IdRef → Modified
modified_by schema name made change (ids.Global id) =
    settled schema made change id (tried schema name made.object change id)
modified_by schema name made change (ids.Local number) = failed made change (pos 5)

abbrev pub modified : Set → List Rdn → Modified → List Change → Modified
modified schema name made [] = made
modified schema name made (change ∷ changes) =
    modified schema name (modified_by schema name made change change.id) changes

-- before the first one
abbrev pub unmodified : Object → Modified
unmodified object = record { object = object; failures = []; done = [] }
