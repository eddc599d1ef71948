-- What a Get does to one object: X.711, section 7.4, m-Get; docs/PROFILE.md, section 15. A group stands for its
-- members in the object: those of its template and those that the uses of the group in the object's packages add.
use Rattle.std.specs.Prelude.{ℕ, List, [], ◌∷◌, ◌++◌, Bool, false, ◌&&◌, ◌||◌, not, Option, None, Some, Result, Ok, Err}
use Rattle.std.specs.Prelude.{filter, flat_map, map, pos, if◌then◌else◌}
use Rattle.std.specs.List.{list_any}
use Rattle.std.specs.Ordering.{int_eq}
use Rattle.term_values.specs.ResultSyntaxes.{attributes_result}
use Rattle.term_model.specs.declared.effect.Effect.{Effect}
use Rattle.term_model.specs.declared.name.Rdn.{Rdn}
use Rattle.term_model.specs.declared.object.Attribute.{Attribute}
use Rattle.term_model.specs.declared.object.Object.{Object}
use Rattle.term_model.specs.declared.packages.GroupUse.{GroupUse}
use Rattle.term_model.specs.declared.packages.PackageRec.{PackageRec}
use Rattle.term_model.specs.declared.reply.CmisError.{CmisError}
use Rattle.term_model.specs.declared.request.IdRef.{IdRef}
use Rattle.term_model.specs.declared.request.IdRef.TheVariants as ids
use Rattle.term_model.specs.declared.results.AttributeValue.{AttributeValue}
use Rattle.term_model.specs.declared.results.GetInfoStatus.{GetInfoStatus}
use Rattle.term_model.specs.declared.results.GetInfoStatus.TheVariants as get_info
use Rattle.term_model.specs.declared.schema.AttrRec.{AttrRec}
use Rattle.term_model.specs.declared.schema.GroupRec.{GroupRec}
use Rattle.term_model.specs.declared.schema.Set.{Set}
use Rattle.term_model.specs.CmisErrors.{get_list_error}
use Rattle.term_model.specs.Comparing.{is_same_oid}
use Rattle.term_model.specs.ObjectOperation.{is_readable, readable, value_octets}
use Rattle.term_model.specs.Replies.{single}
use Rattle.term_model.specs.ResultValues.{attributes_value}
use Rattle.term_model.specs.PresentPackages.{is_among, packages_of}

-- identifiers are the same
abbrev pub is_same_id : IdRef → IdRef → Bool
is_same_id (ids.Global a) (ids.Global b) = is_same_oid a b
is_same_id (ids.Local a) (ids.Local b) = int_eq a b
is_same_id _ _ = false

-- the identifier is this one, in globalForm
abbrev pub is_global : List ℕ → IdRef → Bool
is_global id asked = is_same_id asked (ids.Global id)

-- the list has the identifier
abbrev pub lists : List IdRef → List ℕ → Bool
lists asked id = list_any (is_global id) asked

-- the uses of groups in the packages that an object has
abbrev pub uses_of : Set → Object → List GroupUse
uses_of schema object =
    flat_map (λ (of_package : PackageRec). of_package.groups) (packages_of schema object.class object.chosen)

-- a package of the object uses the group
abbrev pub is_used : List GroupUse → List ℕ → Bool
is_used uses group = list_any (λ (use_of : GroupUse). is_same_oid use_of.group group) uses

-- the list has a group of which the attribute is a member: by its template, where a package of the object uses it
abbrev pub lists_by_template : Set → List GroupUse → List IdRef → List ℕ → Bool
lists_by_template schema uses asked attribute =
    list_any
    (λ (of_group : GroupRec).
    lists asked of_group.id && is_used uses of_group.id && is_among of_group.members attribute) schema.groups

-- or by such a use
abbrev pub lists_by_use : List GroupUse → List IdRef → List ℕ → Bool
lists_by_use uses asked attribute =
    list_any (λ (use_of : GroupUse). lists asked use_of.group && is_among use_of.added attribute) uses

-- the list asks for the attribute: it has it, or a group of which it is a member
abbrev pub asks_for : Set → List GroupUse → List IdRef → List ℕ → Bool
asks_for schema uses asked attribute =
    lists asked attribute || lists_by_template schema uses asked attribute || lists_by_use uses asked attribute

-- an attribute has the identifier
abbrev pub has_attribute : List Attribute → List ℕ → Bool
has_attribute attributes id = list_any (λ (attribute : Attribute). is_same_oid attribute.id id) attributes

-- the identifier is that of an attribute of the object, or of a group that a package of it uses
abbrev pub is_of_object : List GroupUse → List Attribute → IdRef → Bool
is_of_object uses attributes (ids.Global id) = has_attribute attributes id || is_used uses id
is_of_object uses attributes (ids.Local number) = false

-- the identifiers of a list that don't stand in front of it, each once, in their order
abbrev pub not_before : List IdRef → List IdRef → List IdRef
not_before before [] = []
not_before before (id ∷ others) =
    if list_any (λ (earlier : IdRef). is_same_id earlier id) before then not_before (id ∷ before) others
    else id ∷ not_before (id ∷ before) others

-- noSuchAttribute and accessDenied in a getListError
abbrev pub not_there : IdRef → GetInfoStatus
not_there id = get_info.Error (pos 5) id

abbrev pub not_readable : Attribute → GetInfoStatus
not_readable attribute = get_info.Error (pos 2) (ids.Global attribute.id)

-- an attribute with the written encoding of its value
abbrev pub told : List AttrRec → Attribute → AttributeValue
told records attribute = record { id = attribute.id; value = value_octets records attribute }

-- the attributes of the object that the list asks for
abbrev pub asked_of : Set → Object → List IdRef → List Attribute
asked_of schema object asked =
    filter (λ (attribute : Attribute). asks_for schema (uses_of schema object) asked attribute.id) object.attrs

-- what a Get with a list gives, and its errors, once each
abbrev pub given_by : Set → Object → List IdRef → List Attribute
given_by schema object asked =
    filter (λ (attribute : Attribute). is_readable schema object.class attribute.id) (asked_of schema object asked)

abbrev pub absent_in : Set → Object → List IdRef → List IdRef
absent_in schema object asked =
    filter (λ (id : IdRef). not (is_of_object (uses_of schema object) object.attrs id)) (not_before [] asked)

abbrev pub denied_in : Set → Object → List IdRef → List Attribute
denied_in schema object asked =
    filter (λ (attribute : Attribute). not (is_readable schema object.class attribute.id))
    (asked_of schema object asked)

abbrev pub get_errors : Set → Object → List IdRef → List GetInfoStatus
get_errors schema object asked =
    map not_there (absent_in schema object asked) ++ map not_readable (denied_in schema object asked)

-- a Get changes nothing and has no event
abbrev pub got : List ℕ → List Rdn → List ℕ → List AttributeValue → Effect
got class name time given = record {
  changes = [];
  reply = single attributes_result (attributes_value class name time given);
  sources = [];
}

-- a result where there is no error, else getListError with the errors and the attributes
abbrev pub got_with : List ℕ → List Rdn → List ℕ → List AttributeValue → List GetInfoStatus → Result Effect CmisError
got_with class name time given [] = Ok (got class name time given)
got_with class name time given (error ∷ errors) =
    Err (get_list_error class name time ((error ∷ errors) ++ map get_info.Attribute given))

-- the Get of an object, granted at the moment that this text tells; without a list of all that may be read
abbrev pub get_effect : Set → List Rdn → Object → Option (List IdRef) → List ℕ → Result Effect CmisError
get_effect schema name object None time =
    got_with object.class name time (map (told schema.attributes) (readable schema object)) []
get_effect schema name object (Some asked) time =
    got_with object.class name time (map (told schema.attributes) (given_by schema object asked))
    (get_errors schema object asked)
