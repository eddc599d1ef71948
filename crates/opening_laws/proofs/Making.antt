-- An object that is made in a whole schema of which everything has an encoding, and what is to be shown of each of its
-- values.
use Rattle.std.proofs.Common.{◌≡◌, ℕ, ◌+◌, ◌<◌, ◌≤◌, Bool, true, false, List, ◌++◌, Option, None, Some}
use Rattle.std.proofs.Common.{refl, sym, ap, ◌∙◌, subst, arith, length}
use Rattle.std.proofs.lemmas.Bool.{and_parts, false≢true}
use Rattle.std.proofs.lemmas.List.Elements.{All-contains, Contains-append_left, Contains-append_right}
use Rattle.std.specs.Prelude.{Contains, map, not}
use Rattle.term_values.specs.Fits.{Fits}
use Rattle.term_values.specs.Oid.{oid_contents}
use Rattle.term_values.specs.Syntaxes.{TypeParts}
use Rattle.term_values.specs.Syntaxes.TypeSyntax.{Choice, ObjectIdentifier, Tagged}
use Rattle.term_values.specs.Syntaxes.TypeParts.{Part}
use Rattle.term_values.specs.TreeTags.{due}
use Rattle.term_values.specs.Typed.{TypedValue}
use Rattle.term_values.specs.Typed.TypedValue.{Identifier, Pick}
use Rattle.term_values.specs.UniversalTags.{object_identifier}
use Rattle.term_values.specs.Written.{der}
use Rattle.term_values.specs.declared.tag.Tag.{Tag}
use Rattle.term_model.specs.declared.actions.ActRec.{ActRec}
use Rattle.term_model.specs.declared.actions.NoteRec.{NoteRec}
use Rattle.term_model.specs.declared.creation.Outline.{Outline}
use Rattle.term_model.specs.declared.name.Rdn.{Rdn}
use Rattle.term_model.specs.declared.name_binding.BindRec.{BindRec}
use Rattle.term_model.specs.declared.object.Object.{Object}
use Rattle.term_model.specs.declared.schema.AttrRec.{AttrRec}
use Rattle.term_model.specs.declared.schema.ClassRec.{ClassRec}
use Rattle.term_model.specs.declared.schema.GroupRec.{GroupRec}
use Rattle.term_model.specs.declared.schema.InstRec.{InstRec}
use Rattle.term_model.specs.declared.schema.Set.{Set}
use Rattle.term_model.specs.AgentWritten.{is_agent_written}
use Rattle.term_model.specs.BoundClasses.{counts, is_bound_log}
use Rattle.term_model.specs.Creation.{outline_of}
use Rattle.term_model.specs.CreateSteps.{may_stand}
use Rattle.term_model.specs.Opening.{asking_of}
use Rattle.term_model.specs.PresentPackages.{is_among}
use Rattle.term_model.specs.WholeSet.{IsWhole, identifiers_of}
use Rattle.package_laws.proofs.Members.{map_gets}
use Rattle.opening_laws.specs.Encodable.{IsEncodable, IsIdentifier}
use Rattle.opening_laws.proofs.Creations.{IsCreated, has_record}
use Rattle.opening_laws.proofs.EncodingLengths.{encoded_short, identifier_contents_short}

pub record IsMaking (schema : Set) (instance : InstRec) (object : Object) : Type 0 where
  pub whole : IsWhole schema
  pub encodable : IsEncodable schema
  pub there : Contains schema.instances instance
  pub created : IsCreated schema instance object

-- what the object has
abbrev pub outline_for : Set → InstRec → List ℕ → Outline
outline_for schema instance class = outline_of schema class (asking_of schema instance).given

-- Of a value of an attribute whose record this is, in an object of a class that is named by a part: it fits and isn't
-- too long; it was tested, unless the agent writes it; and it is the value in the name, where it names the object.
pub record IsHeld (schema : Set) (class : List ℕ) (part : Rdn) (template : AttrRec) (id : List ℕ)
    (value : TypedValue) : Type 0 where
  pub fits : Fits template.syntax value
  pub long : length (der template.syntax value) < 8589934592
  pub small : counts schema class id ≡ true → length (der template.syntax value) ≤ 8192
  pub tested : is_agent_written schema (is_bound_log schema class) id ≡ false → may_stand schema class id value ≡ true
  pub agrees : part.attribute ≡ id → der template.syntax value ≡ part.value

-- ---- the agent doesn't write the attribute that names the object

pub is_not : (b : Bool) → not b ≡ true → b ≡ false
is_not true e = absurd (false≢true e)
is_not false e = refl

pub plain_part : (schema : Set) (instance : InstRec) (object : Object) (created : IsCreated schema instance object)
    → is_agent_written schema (is_bound_log schema created.class) created.creation.named.attribute ≡ false
plain_part schema instance object created =
    let outline = outline_for schema instance created.class in
    let id = created.creation.named.attribute in
    is_not (is_agent_written schema outline.bound_log id)
    (and_parts (is_among outline.attributes id) (not (is_agent_written schema outline.bound_log id)) created.names).1

pub agent_held : (schema : Set) (instance : InstRec) (object : Object) (created : IsCreated schema instance object)
    (template : AttrRec) (id : List ℕ) (value : TypedValue)
    → is_agent_written schema (is_bound_log schema created.class) id ≡ true → Fits template.syntax value
    → length (der template.syntax value) < 8589934592
    → (counts schema created.class id ≡ true → length (der template.syntax value) ≤ 8192)
    → IsHeld schema created.class created.creation.named template id value
agent_held schema instance object created template id value written fits long small = record {
  fits = fits;
  long = long;
  small = small;
  tested = λ plain. absurd (false≢true (sym plain ∙ written));
  agrees = λ same.
      absurd
      (false≢true (sym (plain_part schema instance object created)
      ∙ ap (is_agent_written schema (is_bound_log schema created.class)) same ∙ written));
}

pub short_held : (schema : Set) (instance : InstRec) (object : Object) (created : IsCreated schema instance object)
    (template : AttrRec) (id : List ℕ) (value : TypedValue)
    → is_agent_written schema (is_bound_log schema created.class) id ≡ true → Fits template.syntax value
    → length (der template.syntax value) ≤ 8192
    → IsHeld schema created.class created.creation.named template id value
short_held schema instance object created template id value written fits short =
    agent_held schema instance object created template id value written fits (omega (arith, short)) (λ counted. short)

-- ---- identifiers of the schema

abbrev class_ids : Set → List (List ℕ)
class_ids schema = map (λ (r : ClassRec). r.id) schema.classes

abbrev attribute_ids : Set → List (List ℕ)
attribute_ids schema = map (λ (r : AttrRec). r.id) schema.attributes

abbrev group_ids : Set → List (List ℕ)
group_ids schema = map (λ (r : GroupRec). r.id) schema.groups

abbrev binding_ids : Set → List (List ℕ)
binding_ids schema = map (λ (r : BindRec). r.id) schema.bindings

abbrev action_ids : Set → List (List ℕ)
action_ids schema = map (λ (r : ActRec). r.id) schema.actions

abbrev notification_ids : Set → List (List ℕ)
notification_ids schema = map (λ (r : NoteRec). r.id) schema.notifications

in_first_two : (schema : Set) (id : List ℕ) → Contains (class_ids schema ++ attribute_ids schema) id
    → Contains (identifiers_of schema) id
in_first_two schema id at =
    Contains-append_left
    (class_ids schema ++ attribute_ids schema ++ group_ids schema ++ binding_ids schema ++ action_ids schema)
    (notification_ids schema) id
    (Contains-append_left (class_ids schema ++ attribute_ids schema ++ group_ids schema ++ binding_ids schema)
    (action_ids schema) id
    (Contains-append_left (class_ids schema ++ attribute_ids schema ++ group_ids schema) (binding_ids schema) id
    (Contains-append_left (class_ids schema ++ attribute_ids schema) (group_ids schema) id at)))

pub class_identifier : (schema : Set) (of_class : ClassRec) → IsEncodable schema → Contains schema.classes of_class
    → IsIdentifier of_class.id
class_identifier schema of_class encodable at =
    All-contains IsIdentifier (identifiers_of schema) of_class.id encodable.identifiers
    (in_first_two schema of_class.id
    (Contains-append_left (class_ids schema) (attribute_ids schema) of_class.id
    (map_gets (λ (r : ClassRec). r.id) schema.classes of_class at)))

pub attribute_identifier : (schema : Set) (template : AttrRec) → IsEncodable schema
    → Contains schema.attributes template → IsIdentifier template.id
attribute_identifier schema template encodable at =
    All-contains IsIdentifier (identifiers_of schema) template.id encodable.identifiers
    (in_first_two schema template.id
    (Contains-append_right (class_ids schema) (attribute_ids schema) template.id
    (map_gets (λ (r : AttrRec). r.id) schema.attributes template at)))

pub binding_identifier : (schema : Set) (binding : BindRec) → IsEncodable schema → Contains schema.bindings binding
    → IsIdentifier binding.id
binding_identifier schema binding encodable at =
    All-contains IsIdentifier (identifiers_of schema) binding.id encodable.identifiers
    (Contains-append_left
    (class_ids schema ++ attribute_ids schema ++ group_ids schema ++ binding_ids schema ++ action_ids schema)
    (notification_ids schema) binding.id
    (Contains-append_left (class_ids schema ++ attribute_ids schema ++ group_ids schema ++ binding_ids schema)
    (action_ids schema) binding.id
    (Contains-append_right (class_ids schema ++ attribute_ids schema ++ group_ids schema) (binding_ids schema)
    binding.id (map_gets (λ (r : BindRec). r.id) schema.bindings binding at))))

-- the class of the object
pub own_identifier : (schema : Set) (instance : InstRec) (object : Object) → (made : IsMaking schema instance object)
    → IsIdentifier made.created.creation.class
own_identifier schema instance object made =
    let found = has_record schema instance made.created.class made.created.asked in
    subst IsIdentifier (found.1.named ∙ sym made.created.of_class)
    (class_identifier schema found.0 made.encodable found.1.known)

-- ---- how long they are

pub identifier_short : (arcs : List ℕ) → IsIdentifier arcs
    → length (der ObjectIdentifier (Identifier arcs)) ≤ 330
identifier_short arcs is =
    let contents = identifier_contents_short arcs is.0 in
    let whole : length (der ObjectIdentifier (Identifier arcs)) ≤ 15 + length (oid_contents arcs) =
    encoded_short false (due None object_identifier) (oid_contents arcs) in
    omega (arith, contents, whole)

pub choice_short : (name arcs : List ℕ) (tag : Tag) (explicit optional : Bool) (default : Option TypedValue)
    (rest : TypeParts) → IsIdentifier arcs
    → length (der (Choice (Part name (Tagged tag explicit ObjectIdentifier) optional default rest))
    (Pick 0 (Identifier arcs))) ≤ 345
choice_short name arcs tag true optional default rest is =
    let inner = identifier_short arcs is in
    let whole = encoded_short true (due None tag) (der ObjectIdentifier (Identifier arcs)) in
    omega (arith, inner, whole)
choice_short name arcs tag false optional default rest is =
    let contents = identifier_contents_short arcs is.0 in
    let whole = encoded_short false (due (Some (due None tag)) object_identifier) (oid_contents arcs) in
    omega (arith, contents, whole)
