-- A whole schema has one record for each class and attribute, by its identifier and by its label, and a class one
-- property for each attribute.
use Rattle.std.proofs.Common.{◌≡◌, ◌≢◌, ℕ, List, Option, None, Some, refl}
use Rattle.std.specs.Option.{option_map}
use Rattle.std.specs.Prelude.{◌++◌, AllPairs, Contains, map}
use Rattle.term_values.specs.Syntaxes.{TypeSyntax}
use Rattle.term_model.specs.declared.name_binding.BindRec.{BindRec}
use Rattle.term_model.specs.declared.actions.ActRec.{ActRec}
use Rattle.term_model.specs.declared.actions.NoteRec.{NoteRec}
use Rattle.term_model.specs.declared.schema.AttrRec.{AttrRec}
use Rattle.term_model.specs.declared.schema.ClassRec.{ClassRec}
use Rattle.term_model.specs.declared.schema.GroupRec.{GroupRec}
use Rattle.term_model.specs.declared.schema.Set.{Set}
use Rattle.term_model.specs.ClassAttributes.{syntax_of}
use Rattle.term_model.specs.Comparing.{is_same_oid}
use Rattle.term_model.specs.ObjectOperation.{attribute_record, class_record}
use Rattle.term_model.specs.WholeSet.{IsWhole}
use Rattle.set_laws.proofs.Found.{found_is, once_same, pairs_behind, pairs_front, pairs_of_map}
use Rattle.set_laws.proofs.Unnamed.{same_id}

-- ---- what is found

pub record_is : (records : List AttrRec) (id : List ℕ) (template : AttrRec)
    → attribute_record records id ≡ Some template → Contains records template × (template.id ≡ id)
record_is records id template e =
    let found = found_is (λ (of_attribute : AttrRec). is_same_oid of_attribute.id id) records template e in
    (found.0, (same_id template.id id).0 found.1)

pub class_is : (records : List ClassRec) (id : List ℕ) (of_class : ClassRec) → class_record records id ≡ Some of_class
    → Contains records of_class × (of_class.id ≡ id)
class_is records id of_class e =
    let found = found_is (λ (one : ClassRec). is_same_oid one.id id) records of_class e in
    (found.0, (same_id of_class.id id).0 found.1)

by_syntax : (found : Option AttrRec) (syntax : TypeSyntax)
    → option_map (λ (of_attribute : AttrRec). of_attribute.syntax) found ≡ Some syntax
    → (template : AttrRec) × (found ≡ Some template) × (template.syntax ≡ syntax)
by_syntax None syntax e = absurd (cc)
by_syntax (Some template) syntax e = (template, refl, cc)

-- the record that gives an attribute its syntax
pub syntax_is : (records : List AttrRec) (id : List ℕ) (syntax : TypeSyntax) → syntax_of records id ≡ Some syntax
    → (template : AttrRec) × (attribute_record records id ≡ Some template) × (template.syntax ≡ syntax)
syntax_is records id syntax e = by_syntax (attribute_record records id) syntax e

-- ---- and is the only one

abbrev class_ids : Set → List (List ℕ)
class_ids schema = map (λ (r : ClassRec). r.id) schema.classes

abbrev attribute_ids : Set → List (List ℕ)
attribute_ids schema = map (λ (r : AttrRec). r.id) schema.attributes

abbrev class_labels : Set → List (List ℕ)
class_labels schema = map (λ (r : ClassRec). r.label) schema.classes

abbrev attribute_labels : Set → List (List ℕ)
attribute_labels schema = map (λ (r : AttrRec). r.label) schema.attributes

first_two : (a b c d e f : List (List ℕ)) → AllPairs ◌≢◌ (a ++ b ++ c ++ d ++ e ++ f) → AllPairs ◌≢◌ (a ++ b)
first_two a b c d e f pairs =
    pairs_front ◌≢◌ (a ++ b) c
    (pairs_front ◌≢◌ (a ++ b ++ c) d
    (pairs_front ◌≢◌ (a ++ b ++ c ++ d) e
    (pairs_front ◌≢◌ (a ++ b ++ c ++ d ++ e) f pairs)))

ids_apart : (schema : Set) → IsWhole schema → AllPairs ◌≢◌ (class_ids schema ++ attribute_ids schema)
ids_apart schema whole =
    first_two (class_ids schema) (attribute_ids schema) (map (λ (r : GroupRec). r.id) schema.groups)
    (map (λ (r : BindRec). r.id) schema.bindings) (map (λ (r : ActRec). r.id) schema.actions)
    (map (λ (r : NoteRec). r.id) schema.notifications) whole.identifiers

labels_apart : (schema : Set) → IsWhole schema → AllPairs ◌≢◌ (class_labels schema ++ attribute_labels schema)
labels_apart schema whole =
    first_two (class_labels schema) (attribute_labels schema) (map (λ (r : GroupRec). r.label) schema.groups)
    (map (λ (r : BindRec). r.label) schema.bindings) (map (λ (r : ActRec). r.label) schema.actions)
    (map (λ (r : NoteRec). r.label) schema.notifications) whole.labels

pub one_class : (schema : Set) (one other : ClassRec) → IsWhole schema → Contains schema.classes one
    → Contains schema.classes other → one.id ≡ other.id → one ≡ other
one_class schema one other whole at also same =
    once_same (λ (r : ClassRec). r.id) schema.classes one other
    (pairs_of_map (λ (r : ClassRec). r.id) schema.classes
    (pairs_front ◌≢◌ (class_ids schema) (attribute_ids schema) (ids_apart schema whole))) at also same

pub one_attribute : (schema : Set) (one other : AttrRec) → IsWhole schema → Contains schema.attributes one
    → Contains schema.attributes other → one.id ≡ other.id → one ≡ other
one_attribute schema one other whole at also same =
    once_same (λ (r : AttrRec). r.id) schema.attributes one other
    (pairs_of_map (λ (r : AttrRec). r.id) schema.attributes
    (pairs_behind ◌≢◌ (class_ids schema) (attribute_ids schema) (ids_apart schema whole))) at also same

pub one_labelled : (schema : Set) (one other : AttrRec) → IsWhole schema → Contains schema.attributes one
    → Contains schema.attributes other → one.label ≡ other.label → one ≡ other
one_labelled schema one other whole at also same =
    once_same (λ (r : AttrRec). r.label) schema.attributes one other
    (pairs_of_map (λ (r : AttrRec). r.label) schema.attributes
    (pairs_behind ◌≢◌ (class_labels schema) (attribute_labels schema) (labels_apart schema whole))) at also same
