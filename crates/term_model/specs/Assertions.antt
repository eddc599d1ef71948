-- Attribute value assertions: the identifier that a tree gives, and the value that the tree behind it gives. X.711,
-- section 7.5, types ObjectClass, AttributeId, ActionTypeId, EventTypeId and Attribute. The functions that compute are
-- id_in, given_of and given_in; the relations beside them IsIdRef, IsAsserted and IsGiven.
use Rattle.std.specs.Prelude.{◌≡◌, ℕ, List, Option, None, Some, option_and_then, if◌then◌else◌}
use Rattle.std.specs.Option.{option_map}
use Rattle.term_values.specs.CmipTypes.{identifier}
use Rattle.term_values.specs.Decoding.{value_in}
use Rattle.term_values.specs.Denotes.{Denotes}
use Rattle.term_values.specs.Der.{written}
use Rattle.term_values.specs.FilterTrees.{is_context}
use Rattle.term_values.specs.Octets.{integer_in}
use Rattle.term_values.specs.Oid.{oid_in}
use Rattle.term_values.specs.Syntaxes.{TypeSyntax}
use Rattle.term_values.specs.Tree.{TreeValue, TreeValues}
use Rattle.term_values.specs.Tree.TreeValue.{Primitive, Constructed}
use Rattle.term_values.specs.Tree.TreeValues.{Nothing, Then}
use Rattle.term_values.specs.Typed.{TypedValue}
use Rattle.term_values.specs.Typed.TypedValue.{Identifier, Int, Pick}
use Rattle.term_model.specs.declared.filter_item.Given.{Given}
use Rattle.term_model.specs.declared.request.IdRef.{IdRef}
use Rattle.term_model.specs.declared.request.IdRef.TheVariants.{Global, Local}
use Rattle.term_model.specs.declared.schema.AttrRec.{AttrRec}
use Rattle.term_model.specs.FilterTruth.{named_record}

-- The identifier in globalForm or in localForm, of which each has a context tag with its own number: 0 and 1 of
-- ObjectClass and AttributeId, 2 and 3 of ActionTypeId, 6 and 7 of EventTypeId. A number of localForm has 64 bits.
abbrev pub id_in : ℕ → ℕ → TreeValue → Option IdRef
id_in global local (Primitive tag contents) =
    if is_context global tag then option_map Global (oid_in contents)
    else (if is_context local tag then option_map Local (integer_in contents) else None)
id_in global local (Constructed tag inside) = None

-- the identifier as a value of the CHOICE of the two forms
abbrev pub id_value : IdRef → TypedValue
id_value (Global arcs) = Pick 0 (Identifier arcs)
id_value (Local number) = Pick 1 (Int number)

abbrev pub IsIdRef : ℕ → ℕ → TreeValue → IdRef → Type 0
IsIdRef global local tree id = Denotes (identifier global local) tree (id_value id)

-- The value that the tree denotes in the syntax of what is identified: none where that has no syntax, is unknown or is
-- named in local form, and where the tree denotes none.
abbrev pub asserted_in : Option TypeSyntax → TreeValue → Option TypedValue
asserted_in syntax tree = option_and_then (λ of. value_in of tree) syntax

abbrev pub IsAsserted : Option TypeSyntax → TreeValue → Option TypedValue → Type 0
IsAsserted None tree value = value ≡ None
IsAsserted (Some syntax) tree (Some value) = Denotes syntax tree value
IsAsserted (Some syntax) tree None = (value : TypedValue) → ¬ (Denotes syntax tree value)

-- The assertion: the identifier, the value, and the tree in the form in which an ANY is kept and given back, with the
-- shortest definite lengths and else as it came.
abbrev pub given_of : Option TypeSyntax → IdRef → TreeValue → Given
given_of syntax id tree = record { id = id; value = asserted_in syntax tree; raw = written tree }

abbrev pub IsGiven : Option TypeSyntax → IdRef → TreeValue → Given → Type 0
IsGiven syntax id tree given =
    (given.id ≡ id) × (given.raw ≡ written tree) × IsAsserted syntax tree given.value

-- the syntax of the attribute that is named, where it is known
abbrev pub attribute_syntax : List AttrRec → IdRef → Option TypeSyntax
attribute_syntax records id = option_map (λ (of_attribute : AttrRec). of_attribute.syntax) (named_record records id)

-- the assertion of an attribute
abbrev pub attribute_given : List AttrRec → IdRef → TreeValue → Given
attribute_given records id tree = given_of (attribute_syntax records id) id tree

-- the components of Attribute, AttributeId and a value
abbrev pub given_in : List AttrRec → TreeValues → Option Given
given_in records (Then id (Then value Nothing)) =
    option_map (λ named. attribute_given records named value) (id_in 0 1 id)
given_in records _ = None
