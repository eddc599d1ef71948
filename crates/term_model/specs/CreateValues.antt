-- From where the attributes of an object that is created have their values: X.711, section 7.4, m-Create; X.722,
-- section 8.4, DEFAULT VALUE and INITIAL VALUE; docs/PROFILE.md, section 15. What the agent itself writes comes first,
-- then the list of the creation, the name, the reference object, the initial value and the default.
use Rattle.std.specs.Prelude.{ℕ, pos, List, [], ◌∷◌, Bool, false, Option, None, Some}
use Rattle.std.specs.Prelude.{find, map, option_and_then, if◌then◌else◌}
use Rattle.std.specs.Option.{option_map, option_map_or, unwrap_or}
use Rattle.std.specs.Ordering.{int_eq}
use Rattle.term_values.specs.Decoding.{rising_by, value_in}
use Rattle.term_values.specs.KeptTest.{tree_of}
use Rattle.term_values.specs.Syntaxes.{TypeSyntax}
use Rattle.term_values.specs.Syntaxes.TypeSyntax.{ObjectIdentifier}
use Rattle.term_values.specs.Typed.{TypedValue, TypedValues, listed}
use Rattle.term_values.specs.Typed.TypedValue.{Identifier, Int, Many, Pick}
use Rattle.term_values.specs.Typed.TypedValues.{Nothing, Then}
use Rattle.term_values.specs.Written.{der}
use Rattle.term_model.specs.declared.filter_item.Given.{Given}
use Rattle.term_model.specs.declared.name.Rdn.{Rdn}
use Rattle.term_model.specs.declared.object.Attribute.{Attribute}
use Rattle.term_model.specs.declared.packages.Property.{Property}
use Rattle.term_model.specs.declared.schema.Set.{Set}
use Rattle.term_model.specs.AgentWritten.{is_class_choice, is_class_identifier, is_counter, is_log_status}
use Rattle.term_model.specs.AgentWritten.{is_name_binding, is_package_list}
use Rattle.term_model.specs.ClassAttributes.{property_of, syntax_of}
use Rattle.term_model.specs.Comparing.{is_same_oid}
use Rattle.term_model.specs.declared.creation.Creation.{Creation}
use Rattle.term_model.specs.declared.creation.Outline.{Outline}
use Rattle.term_model.specs.Creation.{registered}

-- the name binding; 0.0 of the root, which has none
abbrev pub binding_value : Option (List ℕ) → TypedValue
binding_value binding = Identifier (unwrap_or binding (0 ∷ 0 ∷ []))

-- a SET OF OBJECT IDENTIFIER
abbrev pub identifiers_value : List (List ℕ) → TypedValue
identifiers_value ids = Many (rising_by (der ObjectIdentifier) (listed (map Identifier ids)))

-- the list gives the attribute
abbrev pub gives : List ℕ → Given → Bool
gives attribute given = option_map_or (λ id. is_same_oid id attribute) (registered given.id) false

-- the value that the list gives
abbrev pub listed_value : Creation → List ℕ → Option TypedValue
listed_value creation attribute =
    option_and_then (λ (given : Given). given.value) (find (gives attribute) creation.given)

-- The value that the agent itself writes: the class, as an OBJECT IDENTIFIER or in globalForm, the name binding, the
-- packages that the creation named; of a bound log, which has no records yet, how many octets its records have, and how
-- many they are.
abbrev pub written_value : Set → Creation → Outline → List ℕ → Option TypedValue
written_value schema creation outline attribute =
    if is_class_identifier schema attribute then Some (Identifier creation.class)
    else (if is_class_choice schema attribute then Some (Pick 0 (Identifier creation.class))
    else (if is_name_binding schema attribute then Some (binding_value creation.binding)
    else (if is_package_list schema attribute then Some (unwrap_or (listed_value creation attribute) (Many Nothing))
    else (if is_counter schema outline.bound_log attribute then Some (Int (pos 0)) else None))))

-- the value that octets have in a syntax, where they are one of it; however deep the values in them stand, since a name
-- of a document may hold any value that fits
abbrev pub value_of_octets : TypeSyntax → List ℕ → Option TypedValue
value_of_octets syntax octets = option_and_then (value_in syntax) (tree_of octets)

-- the value that the name gives to the attribute by which the object is named
abbrev pub named_value : Set → Rdn → Option TypedValue
named_value schema named =
    option_and_then (λ syntax. value_of_octets syntax named.value) (syntax_of schema.attributes named.attribute)

-- the value that is taken over from a reference object
abbrev pub taken_value : Creation → List ℕ → Option TypedValue
taken_value creation attribute =
    option_map (λ (held : Attribute). held.value)
    (find (λ (held : Attribute). is_same_oid held.id attribute) creation.taken)

abbrev pub initial_value : Set → List ℕ → List ℕ → Option TypedValue
initial_value schema class attribute =
    option_and_then (λ (property : Property). property.initial) (property_of schema class attribute)

abbrev pub default_value : Set → List ℕ → List ℕ → Option TypedValue
default_value schema class attribute =
    option_and_then (λ (property : Property). property.default) (property_of schema class attribute)

-- the first of two values that is there
abbrev pub or_else : Option TypedValue → Option TypedValue → Option TypedValue
or_else (Some value) other = Some value
or_else None other = other

-- the value that the reference object gives, or else the class
abbrev pub stated_value : Set → Creation → List ℕ → Option TypedValue
stated_value schema creation attribute =
    or_else (taken_value creation attribute)
    (or_else (initial_value schema creation.class attribute) (default_value schema creation.class attribute))

-- the value of an attribute that the list doesn't give
abbrev pub other_value : Set → Creation → List ℕ → Option TypedValue
other_value schema creation attribute =
    if is_same_oid creation.named.attribute attribute then named_value schema creation.named
    else stated_value schema creation attribute

-- availabilityStatus of a bound log, which isn't full: without logFull 8
abbrev pub is_log_full : TypedValue → Bool
is_log_full (Int n) = int_eq n (pos 8)
is_log_full _ = false

abbrev pub without_full : TypedValues → TypedValues
without_full Nothing = Nothing
without_full (Then x xs) = if is_log_full x then without_full xs else Then x (without_full xs)

abbrev pub not_full : TypedValue → TypedValue
not_full (Many values) = Many (without_full values)
not_full value = value

-- the value as it stands in the object
abbrev pub settled_value : Set → Bool → List ℕ → TypedValue → TypedValue
settled_value schema bound_log attribute value =
    if is_log_status schema bound_log attribute then not_full value else value

-- the value of an attribute of the object, where it has one
abbrev pub created_value : Set → Creation → Outline → List ℕ → Option TypedValue
created_value schema creation outline attribute =
    or_else (written_value schema creation outline attribute)
    (option_map (settled_value schema outline.bound_log attribute)
    (or_else (listed_value creation attribute) (other_value schema creation attribute)))
