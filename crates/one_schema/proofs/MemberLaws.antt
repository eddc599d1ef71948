-- MemberLaws: a linked attribute, group, name binding, action or notification has one record (X.722, sections 8.6 to
-- 8.11).
use Rattle.std.specs.Prelude.{◌≡◌, ◌↔◌, ◌+◌, ◌∷◌, ℕ, suc, List, Bool, true, None, Some, refl, slice_get}
use Rattle.std.proofs.Common.{◌∙◌, ap, arith, sym}
use Rattle.std.proofs.Math.Path.{subst}
use Rattle.std.proofs.lemmas.Option.{none-some, same_Some}
use Rattle.term_model.specs.declared.schema.AttrRec.{AttrRec}
use Rattle.asn1_names.specs.ModuleTerms.{ModuleTerm}
use Rattle.linked_parts.specs.declared.linked.Linked.{Linked}
use Rattle.linked_parts.specs.declared.linked.LinkedAttribute.{LinkedAttribute}
use Rattle.linked_types.specs.AttributeRules.{TellsRules}
use Rattle.linked_types.specs.PartIdentifiers.{IsAttributeId}
use Rattle.linked_types.proofs.SyntaxLaws.{one_syntax}
use Rattle.schema_records.specs.ClassRecords.{IsRegistered}
use Rattle.schema_records.specs.MemberRecords.{AreAttributes, IsAction, IsAttribute, IsBinding, IsCreateClause, IsField}
use Rattle.schema_records.specs.MemberRecords.{IsGroup, IsNotification}
use Rattle.schema_records.specs.MemberRecords.AreAttributes.{no_more, one, unregistered}
use Rattle.one_schema.proofs.OnceLaws.{HasOne, one_each, same_bool}
use Rattle.one_schema.proofs.MeaningLaws.{one_attribute, one_class, one_optional_type, registered_id, registered_label}

-- ---- attributes

-- each rule is told exactly where the attribute has it
one_rules : (linked : Linked) → HasOne (TellsRules linked)
one_rules linked k x y is also =
    let equality = as_told x.equality y.equality is.equality also.equality in
    let ordering = as_told x.ordering y.ordering is.ordering also.ordering in
    let substrings = as_told x.substrings y.substrings is.substrings also.substrings in
    let comparison = as_told x.comparison y.comparison is.comparison also.comparison in
    let intersection = as_told x.intersection y.intersection is.intersection also.intersection in
    λ i. record {
      equality = equality i;
      ordering = ordering i;
      substrings = substrings i;
      comparison = comparison i;
      intersection = intersection i;
    }
  where
    as_told : {P : Type 0} (told other : Bool) → (told ≡ true) ↔ P → (other ≡ true) ↔ P → told ≡ other
    as_told told other is also = same_bool told other (λ h. also.1 (is.0 h), λ h. is.1 (also.0 h))

module _ (ms : List ModuleTerm) (linked : Linked) where
  one_attribute_record : HasOne (IsAttribute ms linked)
  one_attribute_record k x y is also =
      let same = same_Some is.part also.part (sym is.stands ∙ also.stands) in
      let registered = subst (λ (part : LinkedAttribute). IsRegistered part.head x.id x.label) same is.registered in
      let syntax = one_syntax ms linked k x.syntax y.syntax is.has also.has in
      let rules = one_rules linked k x.rules y.rules is.rules also.rules in
      λ i. record {
        id = registered_id registered also.registered i;
        label = registered_label registered also.registered i;
        syntax = syntax i;
        rules = rules i;
      }

  -- these are the attributes from the place k of the table on
  abbrev AreFrom : ℕ → List LinkedAttribute → Type 0
  AreFrom k parts = (j : ℕ) → slice_get parts j ≡ slice_get linked.attributes.items (k + j)

  further_from : (k : ℕ) (part : LinkedAttribute) (parts : List LinkedAttribute) → AreFrom k (part ∷ parts) →
      AreFrom (suc k) parts
  further_from k part parts from j = from (suc j) ∙ ap (slice_get linked.attributes.items) (omega arith)

  -- a record is of an attribute that is registered
  not_unregistered : (k : ℕ) (part : LinkedAttribute) (parts : List LinkedAttribute) (x : AttrRec) →
      AreFrom k (part ∷ parts) → IsAttribute ms linked k x → part.head.identifier ≡ None → ⊥
  not_unregistered k part parts x from is gone =
      let same = same_Some part is.part (from 0 ∙ ap (slice_get linked.attributes.items) (omega arith) ∙ is.stands) in
      none-some x.id (sym gone ∙ ap (λ (y : LinkedAttribute). y.head.identifier) same ∙ is.registered.is_id)

  attributes_from : {k : ℕ} {parts : List LinkedAttribute} {xs ys : List AttrRec} → AreFrom k parts →
      AreAttributes ms linked k parts xs → AreAttributes ms linked k parts ys → xs ≡ ys
  attributes_from from no_more no_more = refl
  attributes_from from (one {k = k} {part = part} {parts = parts} {x = x} is rest) (one {x = y} also further) =
      let first = one_attribute_record k x y is also in
      let others = attributes_from (further_from k part parts from) rest further in λ i. first i ∷ others i
  attributes_from from (one {k = k} {part = part} {parts = parts} {x = x} is rest) (unregistered gone further) =
      absurd (not_unregistered k part parts x from is gone)
  attributes_from from (unregistered gone rest) (one {k = k} {part = part} {parts = parts} {x = y} also further) =
      absurd (not_unregistered k part parts y from also gone)
  attributes_from from (unregistered {k = k} {part = part} {parts = parts} gone rest) (unregistered also further) =
      attributes_from (further_from k part parts from) rest further

  pub one_attributes : (xs ys : List AttrRec) → AreAttributes ms linked 0 linked.attributes.items xs →
      AreAttributes ms linked 0 linked.attributes.items ys → xs ≡ ys
  one_attributes xs ys is also = attributes_from (λ j. ap (slice_get linked.attributes.items) (omega arith)) is also

-- ---- groups and name bindings

pub one_group : (linked : Linked) → HasOne (IsGroup linked)
one_group linked part x y is also =
    let members = one_each (IsAttributeId linked) (one_attribute linked) part.elements.items x.members y.members
    is.members_are also.members_are in
    λ i. record {
      id = registered_id is.registered also.registered i;
      label = registered_label is.registered also.registered i;
      members = members i;
      fixed = (sym is.is_fixed ∙ also.is_fixed) i;
    }

one_create : HasOne IsCreateClause
one_create None None None is also = refl
one_create None None (Some y) is also = absurd also
one_create None (Some x) other is also = absurd is
one_create (Some words) None other is also = absurd is
one_create (Some words) (Some x) None is also = absurd also
one_create (Some words) (Some x) (Some y) is also = λ i. Some (record {
  with_reference_object = (sym is.by_reference ∙ also.by_reference) i;
  with_automatic_instance_naming = (sym is.named_automatically ∙ also.named_automatically) i;
})

pub one_binding : (linked : Linked) → HasOne (IsBinding linked)
one_binding linked part x y is also =
    let below = one_class linked part.subordinate x.subordinate.class y.subordinate.class is.is_subordinate
    also.is_subordinate in
    let above = one_class linked part.superior x.superior.class y.superior.class is.is_superior also.is_superior in
    let attribute = one_attribute linked part.attribute x.attribute y.attribute is.is_attribute also.is_attribute in
    let create = one_create part.create x.create y.create is.is_create also.is_create in
    λ i. record {
      id = registered_id is.registered also.registered i;
      label = registered_label is.registered also.registered i;
      subordinate = record { class = below i; subclasses = (sym is.subclasses_below ∙ also.subclasses_below) i };
      superior = record { class = above i; subclasses = (sym is.subclasses_above ∙ also.subclasses_above) i };
      attribute = attribute i;
      create = create i;
      delete = (sym is.is_delete ∙ also.is_delete) i;
    }

-- ---- actions and notifications

one_field : (linked : Linked) → HasOne (IsField linked)
one_field linked part x y is also =
    let attribute = one_attribute linked part.attribute x.attribute y.attribute is.is_attribute also.is_attribute in
    λ i. record { component = (sym is.is_component ∙ also.is_component) i; attribute = attribute i }

module _ (ms : List ModuleTerm) (linked : Linked) where
  pub one_action : HasOne (IsAction ms linked)
  one_action part x y is also =
      let information = one_optional_type ms linked part.information x.information y.information is.is_information
      also.is_information in
      let reply = one_optional_type ms linked part.reply x.reply y.reply is.is_reply also.is_reply in
      λ i. record {
        id = registered_id is.registered also.registered i;
        label = registered_label is.registered also.registered i;
        confirmed = (sym is.is_confirmed ∙ also.is_confirmed) i;
        information = information i;
        reply = reply i;
      }

  pub one_notification : HasOne (IsNotification ms linked)
  one_notification part x y is also =
      let information = one_optional_type ms linked part.information x.information y.information is.is_information
      also.is_information in
      let fields = one_each (IsField linked) (one_field linked) part.fields.items x.fields y.fields is.fields_are
      also.fields_are in
      let reply = one_optional_type ms linked part.reply x.reply y.reply is.is_reply also.is_reply in
      λ i. record {
        id = registered_id is.registered also.registered i;
        label = registered_label is.registered also.registered i;
        information = information i;
        fields = fields i;
        reply = reply i;
      }
