-- CarriedMembers: the records of attributes, groups, name bindings, actions and notifications are those of alike ones
-- (X.722, sections 8.6 to 8.11).
use Rattle.std.specs.Prelude.{◌≡◌, ℕ, [], ◌∷◌, List, Bool, None, Some, Option, codes, refl}
use Rattle.std.specs.List.{list_any}
use Rattle.std.specs.Global.{Vec}
use Rattle.std.proofs.Common.{◌∙◌, ap, sym}
use Rattle.std.proofs.lemmas.Option.{none-some, same_Some}
use Rattle.term_model.specs.declared.actions.ActRec.{ActRec}
use Rattle.term_model.specs.declared.actions.AttributeField.{AttributeField}
use Rattle.term_model.specs.declared.actions.NoteRec.{NoteRec}
use Rattle.term_model.specs.declared.name_binding.BindRec.{BindRec}
use Rattle.term_model.specs.declared.name_binding.CreateClause.{CreateClause}
use Rattle.term_model.specs.declared.schema.AttrRec.{AttrRec}
use Rattle.term_model.specs.declared.schema.GroupRec.{GroupRec}
use Rattle.term_values.specs.declared.rules.Rules.{Rules}
use Rattle.token_grammar.specs.TokenTests.{is_word_of}
use Rattle.token_grammar.specs.declared.token.Token.{Token}
use Rattle.asn1_names.specs.ModuleTerms.{ModuleTerm}
use Rattle.gdmo_names.specs.InStep.{AreEach as AreInStep}
use Rattle.gdmo_linking.proofs.StepLaws.{each_at}
use Rattle.linked_parts.specs.declared.linked.Linked.{Linked}
use Rattle.linked_parts.specs.declared.linked.LinkedAction.{LinkedAction}
use Rattle.linked_parts.specs.declared.linked.LinkedAttribute.{LinkedAttribute}
use Rattle.linked_parts.specs.declared.linked.LinkedBinding.{LinkedBinding}
use Rattle.linked_parts.specs.declared.linked.LinkedField.{LinkedField}
use Rattle.linked_parts.specs.declared.linked.LinkedGroup.{LinkedGroup}
use Rattle.linked_parts.specs.declared.linked.LinkedNotification.{LinkedNotification}
use Rattle.class_faults.specs.AttributeSyntaxes.{HasRuleCalled}
use Rattle.class_faults.specs.AttributeSyntaxes.HasRuleCalled.{of_base, own}
use Rattle.linked_types.specs.AttributeRules.{TellsRule, TellsRules, has_word}
use Rattle.schema_records.specs.MemberRecords.{AreAttributes, IsAction, IsAttribute, IsBinding, IsCreateClause, IsField}
use Rattle.schema_records.specs.MemberRecords.{IsGroup, IsNotification, delete_clause, delete_of}
use Rattle.schema_records.specs.MemberRecords.AreAttributes.{no_more, one, unregistered}
use Rattle.accepted_laws.specs.AlikeParts.{ActionsAlike, AreAlike, AttributesAlike, BindingsAlike, GroupsAlike}
use Rattle.accepted_laws.specs.AlikeParts.{NotificationsAlike, words_of}
use Rattle.accepted_laws.proofs.AlikeClasses.{same_syntax}
use Rattle.accepted_schemas.proofs.AlikeBack.{alike_back}
use Rattle.accepted_schemas.proofs.CarriedNames.{attribute_id, attribute_ids, class_id, each_again, optional_type}
use Rattle.accepted_schemas.proofs.CarriedNames.{registered_alike}

-- ---- attributes

rule_alike : {linked other : Linked} {rule : List ℕ} {k : ℕ} → AreAlike linked other → HasRuleCalled linked rule k →
    HasRuleCalled other rule k
rule_alike {linked = linked} {other = other} {rule = rule} alike (own {k = k} {x = x} stands has) =
    let found = each_at AttributesAlike linked.attributes.items other.attributes.items k x alike.attributes stands in
    own found.1 (ap (list_any (is_word_of rule)) (sym found.2.rules) ∙ has)
rule_alike {linked = linked} {other = other} alike (of_base {k = k} {x = x} stands is rest) =
    let found = each_at AttributesAlike linked.attributes.items other.attributes.items k x alike.attributes stands in
    of_base found.1 (sym found.2.syntax ∙ is) (rule_alike alike rest)

module _ (linked other : Linked) (alike : AreAlike linked other) where
  told_alike : (rule : List ℕ) (k : ℕ) (told : Bool) → TellsRule linked rule k told → TellsRule other rule k told
  told_alike rule k told is =
      (λ h. rule_alike alike (is.0 h), λ has. is.1 (rule_alike (alike_back linked other alike) has))

  rules_alike : (k : ℕ) (x : Rules) → TellsRules linked k x → TellsRules other k x
  rules_alike k x is = record {
    equality = told_alike (codes "EQUALITY") k x.equality is.equality;
    ordering = told_alike (codes "ORDERING") k x.ordering is.ordering;
    substrings = told_alike (codes "SUBSTRINGS") k x.substrings is.substrings;
    comparison = told_alike (codes "SET-COMPARISON") k x.comparison is.comparison;
    intersection = told_alike (codes "SET-INTERSECTION") k x.intersection is.intersection;
  }

  attribute_alike : (ms : List ModuleTerm) (k : ℕ) (x : AttrRec) → IsAttribute ms linked k x →
      IsAttribute ms other k x
  attribute_alike ms k x is =
      let found = each_at AttributesAlike linked.attributes.items other.attributes.items k is.part alike.attributes
      is.stands in
      record {
        part = found.0;
        stands = found.1;
        registered = registered_alike found.2.head is.registered;
        has = same_syntax alike is.has;
        rules = rules_alike k x.rules is.rules;
      }

  pub attributes_alike : (ms : List ModuleTerm) {k : ℕ} {parts : List LinkedAttribute} {xs : List AttrRec}
      (others : List LinkedAttribute) → AreInStep AttributesAlike parts others → AreAttributes ms linked k parts xs →
      AreAttributes ms other k others xs
  attributes_alike ms [] same no_more = no_more
  attributes_alike ms (y ∷ ys) same no_more = absurd same
  attributes_alike ms [] same (one is rest) = absurd same
  attributes_alike ms (y ∷ ys) same (one {k = k} {x = x} is rest) =
      one (attribute_alike ms k x is) (attributes_alike ms ys same.1 rest)
  attributes_alike ms [] same (unregistered gone rest) = absurd same
  attributes_alike ms (y ∷ ys) same (unregistered gone rest) =
      unregistered (sym same.0.head.identifier ∙ gone) (attributes_alike ms ys same.1 rest)

-- ---- groups and name bindings

-- the words behind CREATE or DELETE
create_alike : (words its_words : Option (Vec Token)) (x : Option CreateClause) → words_of words ≡ words_of its_words →
    IsCreateClause words x → IsCreateClause its_words x
create_alike None None x same is = is
create_alike None (Some w) x same is = absurd (none-some w.items same)
create_alike (Some v) None x same is = absurd (none-some v.items (sym same))
create_alike (Some v) (Some w) None same is = absurd is
create_alike (Some v) (Some w) (Some x) same is =
    let words = sym (same_Some v.items w.items same) in
    record {
      by_reference = ap (has_word (codes "WITH-REFERENCE-OBJECT")) words ∙ is.by_reference;
      named_automatically = ap (has_word (codes "WITH-AUTOMATIC-INSTANCE-NAMING")) words ∙ is.named_automatically;
    }

same_delete : (words its_words : Option (Vec Token)) → words_of words ≡ words_of its_words →
    delete_clause words ≡ delete_clause its_words
same_delete None None same = refl
same_delete None (Some w) same = absurd (none-some w.items same)
same_delete (Some v) None same = absurd (none-some v.items (sym same))
same_delete (Some v) (Some w) same =
    ap (λ words. Some (delete_of (has_word (codes "DELETES-CONTAINED-OBJECTS") words)))
    (same_Some v.items w.items same)

module _ {linked other : Linked} (alike : AreAlike linked other) where
  pub group_alike : (part its_part : LinkedGroup) (x : GroupRec) → GroupsAlike part its_part → IsGroup linked part x →
      IsGroup other its_part x
  group_alike part its_part x same is = record {
    registered = registered_alike same.head is.registered;
    members_are = attribute_ids alike part.elements.items its_part.elements.items x.members same.elements
        is.members_are;
    is_fixed = sym same.fixed ∙ is.is_fixed;
  }

  pub binding_alike : (part its_part : LinkedBinding) (x : BindRec) → BindingsAlike part its_part →
      IsBinding linked part x → IsBinding other its_part x
  binding_alike part its_part x same is = record {
    registered = registered_alike same.head is.registered;
    is_subordinate = class_id alike part.subordinate its_part.subordinate x.subordinate.class same.subordinate
        is.is_subordinate;
    subclasses_below = sym same.subordinate_subclasses ∙ is.subclasses_below;
    is_superior = class_id alike part.superior its_part.superior x.superior.class same.superior is.is_superior;
    subclasses_above = sym same.superior_subclasses ∙ is.subclasses_above;
    is_attribute = attribute_id alike part.attribute its_part.attribute x.attribute same.attribute is.is_attribute;
    is_create = create_alike part.create its_part.create x.create same.create is.is_create;
    is_delete = sym (same_delete part.delete its_part.delete same.delete) ∙ is.is_delete;
  }

  -- ---- actions and notifications

  field_alike : (part : LinkedField) (x : AttributeField) → IsField linked part x → IsField other part x
  field_alike part x is = record {
    is_component = is.is_component;
    is_attribute = attribute_id alike part.attribute part.attribute x.attribute refl is.is_attribute;
  }

  pub action_alike : (ms : List ModuleTerm) (part its_part : LinkedAction) (x : ActRec) → ActionsAlike part its_part →
      IsAction ms linked part x → IsAction ms other its_part x
  action_alike ms part its_part x same is = record {
    registered = registered_alike same.head is.registered;
    is_confirmed = sym same.confirmed ∙ is.is_confirmed;
    is_information = optional_type ms alike part.information its_part.information x.information same.information
        is.is_information;
    is_reply = optional_type ms alike part.reply its_part.reply x.reply same.reply is.is_reply;
  }

  pub notification_alike : (ms : List ModuleTerm) (part its_part : LinkedNotification) (x : NoteRec) →
      NotificationsAlike part its_part → IsNotification ms linked part x → IsNotification ms other its_part x
  notification_alike ms part its_part x same is = record {
    registered = registered_alike same.head is.registered;
    is_information = optional_type ms alike part.information its_part.information x.information same.information
        is.is_information;
    fields_are = each_again (IsField linked) (IsField other) field_alike part.fields.items its_part.fields.items
        x.fields same.fields is.fields_are;
    is_reply = optional_type ms alike part.reply its_part.reply x.reply same.reply is.is_reply;
  }
