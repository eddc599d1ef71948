-- What comes of one modification: X.711, section 7.4, m-Set.
use Rattle.std.specs.Prelude.{◌≡◌, ℕ, ◌+◌, ◌-◌, ℤ, pos, List, Bool, ◌||◌, Option, None, Some, true, Result, Ok, Err, get_or, set}
use Rattle.std.specs.Ordering.{int_eq}
use Rattle.term_values.specs.Lengths.{counted, octet_count}
use Rattle.term_values.specs.Syntaxes.{TypeSyntax}
use Rattle.term_values.specs.Typed.{TypedValue}
use Rattle.term_values.specs.Written.{der}
use Rattle.term_model.specs.declared.object.Attribute.{Attribute}
use Rattle.term_model.specs.declared.object.Object.{Object}
use Rattle.term_model.specs.declared.packages.Property.{Property}
use Rattle.term_model.specs.declared.request.Change.{Change}
use Rattle.term_model.specs.declared.schema.AttrRec.{AttrRec}
use Rattle.term_model.specs.ClassAttributes.{syntax_of}
use Rattle.term_model.specs.declared.schema.Set.{Set}
use Rattle.term_model.specs.BoundClasses.{is_bound_log}
use Rattle.term_model.specs.Modifications.{attribute_of, replaced, tried_value}
use Rattle.object_modifications.specs.declared.knowing.Knowledge.{Knowledge}
use Rattle.object_modifications.specs.declared.modifying.Outcome.{Outcome}
use Rattle.object_modifications.specs.declared.seen_once.Seen.{Seen}
use Rattle.object_modifications.specs.Knowing.{AreKnown, Knows}
use Rattle.object_modifications.specs.StatusPlaces.{status_places}
use Rattle.attribute_rules.specs.Places.{are_rising}
use Rattle.attribute_rules.specs.PropertyPlaces.{HasPropertyPlaces}
use Rattle.attribute_rules.specs.Weights.{is_within, weight, weights}

-- what was seen is so of the object: whether its class is a bound log, that the identifiers of its attributes rise where
-- that was seen, where the properties of its class and its attributes labelled availabilityStatus stand
pub record IsSeen (schema : Set) (object : Object) (seen : Seen) : Type 0 where
  pub class : seen.bound ≡ is_bound_log schema object.class
  pub order : seen.rising ≡ true → are_rising object.attrs ≡ true
  pub properties : HasPropertyPlaces schema object.class seen.properties
  pub statuses : seen.statuses.items ≡ status_places schema.attributes 0 object.attrs

-- and what the attributes that count take is known, which is not too much
pub record IsWeighed (schema : Set) (seen : Seen) (object : Object) (total : ℕ) : Type 0 where
  pub is_seen : IsSeen schema object seen
  pub sum : total ≡ weights schema.attributes seen.bound object.attrs
  pub small : is_within total ≡ true

-- and what is told of the values of its attributes is so
abbrev pub IsMade : Set → Seen → Object → ℕ → List Knowledge → Type 0
IsMade schema seen object total told =
    IsWeighed schema seen object total × AreKnown schema object.class object.attrs told

-- addValues and removeValues
abbrev pub changes_members : ℤ → Bool
changes_members operator = int_eq operator (pos 1) || int_eq operator (pos 2)

-- the attribute has the value that is told, with which the attributes take so much; or it is as it was, and the value is
-- refused
abbrev pub TellsSize : Set → Seen → Object → List ℕ → Result TypedValue ℤ → Attribute → Attribute → Option ℕ → Type 0
TellsSize schema seen object id told before after None = (told ≡ Err (pos 6)) × (after ≡ before)
TellsSize schema seen object id told before after (Some size) =
    (told ≡ Ok after.value) × (after ≡ record before { value = after.value })
    × IsWeighed schema seen (record object { attrs = replaced id after.value object.attrs }) size

-- the attributes take so many octets where the value of the one with the identifier takes so many now, and took so many
-- before
abbrev pub TellsWith : List AttrRec → Seen → ℕ → List ℕ → ℕ → ℕ → ℕ → Type 0
TellsWith records seen total id before now size =
    (syntax : TypeSyntax) → (held : Attribute) → (value : TypedValue) → held.id ≡ id
    → syntax_of records id ≡ Some syntax → before ≡ octet_count (der syntax held.value)
    → now ≡ octet_count (der syntax value)
    → size ≡ counted (total - counted (weight records seen.bound held)
    + counted (weight records seen.bound (record held { value = value })))

-- so of a modification of an attribute with these properties and this syntax, in any object that has it; and what is
-- told of the value that it then has is so
pub record TellsOutcome (records : List AttrRec) (seen : Seen) (total : ℕ) (property : Property) (syntax : TypeSyntax)
    (change : Change) (before after : Attribute) (outcome : Outcome) : Type 0 where
  pub sized : (schema : Set) → (object : Object) → (id : List ℕ) → schema.attributes ≡ records
      → attribute_of object.attrs id ≡ Some before → syntax_of records id ≡ Some syntax
      → IsWeighed schema seen object total
      → TellsSize schema seen object id (tried_value schema object change id before property syntax) before after
      outcome.size
  pub known : Knows syntax property.permitted after.value outcome.told

-- the attribute at a place is modified so, and no other one
abbrev pub ChangesAt : List AttrRec → Seen → ℕ → Property → TypeSyntax → Change → ℕ → List Attribute → List Attribute
    → Outcome → Type 0
ChangesAt records seen total property syntax change place before after outcome =
    (d : Attribute) → (after ≡ set before place (get_or after place d))
    × TellsOutcome records seen total property syntax change (get_or before place d) (get_or after place d) outcome
