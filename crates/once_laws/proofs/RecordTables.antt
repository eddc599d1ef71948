-- RecordTables: the identifiers and the labels of the records of a schema are those of templates, table behind table
-- (X.722, section 8; docs/PROFILE.md, section 18).
use Rattle.std.specs.Prelude.{◌≡◌, ◌+◌, ◌++◌, ◌∷◌, [], ℕ, suc, List, Some, map, refl, slice_get}
use Rattle.std.proofs.Common.{◌∙◌, arith, sym}
use Rattle.std.proofs.Math.Path.{subst}
use Rattle.std.proofs.lemmas.Option.{same_Some}
use Rattle.term_model.specs.declared.actions.ActRec.{ActRec}
use Rattle.term_model.specs.declared.actions.NoteRec.{NoteRec}
use Rattle.term_model.specs.declared.name_binding.BindRec.{BindRec}
use Rattle.term_model.specs.declared.schema.AttrRec.{AttrRec}
use Rattle.term_model.specs.declared.schema.ClassRec.{ClassRec}
use Rattle.term_model.specs.declared.schema.GroupRec.{GroupRec}
use Rattle.term_model.specs.declared.schema.Set.{Set}
use Rattle.asn1_names.specs.ModuleTerms.{ModuleTerm}
use Rattle.gdmo_names.specs.DocumentTemplates.{templates}
use Rattle.gdmo_names.specs.InStep.{AreEach}
use Rattle.gdmo_names.specs.PartTerms.{Placed, PartTerms}
use Rattle.gdmo_names.specs.TemplateTerms.{BodyTerm}
use Rattle.gdmo_names.specs.TemplateTerms.TemplateKind.{ActionKind, AttributeKind, BindingKind, ClassKind, GroupKind}
use Rattle.gdmo_names.specs.TemplateTerms.TemplateKind.{NotificationKind}
use Rattle.gdmo_linking.specs.LinkedNames.{IsHead}
use Rattle.gdmo_linking.specs.LinkedTables.{table}
use Rattle.linked_parts.specs.declared.linked.Linked.{Linked}
use Rattle.linked_parts.specs.declared.linked.LinkedAttribute.{LinkedAttribute}
use Rattle.linked_parts.specs.declared.linked.LinkedHead.{LinkedHead}
use Rattle.linked_templates.specs.LinkedMembers.{IsActionOf, IsAttributeOf, IsBindingOf, IsGroupOf, IsNotificationOf}
use Rattle.linked_templates.specs.LinkedTemplates.{IsClassOf}
use Rattle.linked_templates.specs.TemplateTables.{IsTemplate}
use Rattle.linked_types.specs.PartIdentifiers.{AreEach as AreRecordsOf}
use Rattle.linked_documents.specs.LinkedParts.{AreLinkedParts}
use Rattle.schema_records.specs.ClassRecords.{IsClass, IsRegistered}
use Rattle.schema_records.specs.MemberRecords.{AreAttributes, AreRecords, IsAction, IsBinding, IsGroup}
use Rattle.schema_records.specs.MemberRecords.{IsNotification}
use Rattle.schema_records.specs.MemberRecords.AreAttributes.{no_more, one, unregistered}
use Rattle.once_laws.proofs.KindTables.{record_tables}
use Rattle.once_laws.proofs.ToldLaws.{TellsSome, told_append, told_each, told_map}
use Rattle.once_laws.proofs.ToldLaws.TellsSome.{left_out, no_more as none_told, one as one_told}

-- what is picked of the identifier and the label of each record
abbrev pub picked : (List ℕ → List ℕ → List ℕ) → Set → List (List ℕ)
picked pick schema =
    map (λ (r : ClassRec). pick r.id r.label) schema.classes
    ++ map (λ (r : AttrRec). pick r.id r.label) schema.attributes
    ++ map (λ (r : GroupRec). pick r.id r.label) schema.groups
    ++ map (λ (r : BindRec). pick r.id r.label) schema.bindings
    ++ map (λ (r : ActRec). pick r.id r.label) schema.actions
    ++ map (λ (r : NoteRec). pick r.id r.label) schema.notifications

-- what stands at a place stands there under another word for it
moved : (ls : List LinkedAttribute) (j k : ℕ) (l : LinkedAttribute) → j ≡ k → slice_get ls j ≡ Some l →
    slice_get ls k ≡ Some l
moved ls j k l same at = subst (λ i. slice_get ls i ≡ Some l) same at

module _ (parts : PartTerms) (is : Placed → List ℕ → Type 0) (pick : List ℕ → List ℕ → List ℕ)
    (told : (x : Placed) (head : LinkedHead) (id label : List ℕ) → IsHead parts x head → IsRegistered head id label →
    is x (pick id label)) where
  table_told : {L X : Type 0} (head : L → LinkedHead) (body : ℕ → BodyTerm → L → Type 0) (Q : L → X → Type 0)
      (id label : X → List ℕ) → ((l : L) (r : X) → Q l r → IsRegistered (head l) (id r) (label r)) →
      (xs : List Placed) (ls : List L) (rs : List X) → AreEach (IsTemplate parts head body) xs ls →
      AreRecordsOf Q ls rs → TellsSome is xs (map (λ r. pick (id r) (label r)) rs)
  table_told head body Q id label registered xs ls rs one_each each = told_map is (λ r. pick (id r) (label r))
      (told_each (IsTemplate parts head body) Q (λ x r. is x (pick (id r) (label r)))
      (λ x l r its q. told x (head l) (id r) (label r) its.0 (registered l r q)) xs ls rs one_each each)

  -- attributes without an identifier have no records
  attributes_told : (ms : List ModuleTerm) (linked : Linked) (xs : List Placed) {k : ℕ} {ls : List LinkedAttribute}
      {rs : List AttrRec} → AreEach (IsTemplate parts (λ l. l.head) (IsAttributeOf parts)) xs ls →
      AreAttributes ms linked k ls rs → ((n : ℕ) (l : LinkedAttribute) → slice_get ls n ≡ Some l →
      slice_get linked.attributes.items (k + n) ≡ Some l) →
      TellsSome is xs (map (λ (r : AttrRec). pick r.id r.label) rs)
  attributes_told ms linked [] each no_more at = none_told
  attributes_told ms linked (x ∷ xs) each no_more at = absurd each
  attributes_told ms linked [] each (one its rest) at = absurd each
  attributes_told ms linked (x ∷ xs) each (one {k = k} {part = l} {x = r} its rest) at =
      let same = same_Some its.part l (sym its.stands
      ∙ moved linked.attributes.items (k + 0) k l (omega arith) (at 0 l refl)) in
      one_told (told x l.head r.id r.label each.0.0
      (subst (λ (y : LinkedAttribute). IsRegistered y.head r.id r.label) same its.registered))
      (attributes_told ms linked xs each.1 rest
      (λ n y there. moved linked.attributes.items (k + suc n) (suc k + n) y (omega arith) (at (suc n) y there)))
  attributes_told ms linked [] each (unregistered none_stated rest) at = absurd each
  attributes_told ms linked (x ∷ xs) each (unregistered {k = k} none_stated rest) at =
      left_out (attributes_told ms linked xs each.1 rest
      (λ n y there. moved linked.attributes.items (k + suc n) (suc k + n) y (omega arith) (at (suc n) y there)))

  pub records_told : (ms : List ModuleTerm) (linked : Linked) (schema : Set) → AreLinkedParts parts linked →
      AreRecords ms linked schema → TellsSome is (record_tables (templates parts)) (picked pick schema)
  records_told ms linked schema are records =
      let classes = table_told (λ l. l.head) (IsClassOf parts) (IsClass ms linked) (λ r. r.id) (λ r. r.label)
      (λ l r its. its.registered) (table parts ClassKind) linked.classes.items schema.classes are.tables.classes
      records.classes_are in
      let attributes = attributes_told ms linked (table parts AttributeKind) are.tables.attributes
      records.attributes_are (λ n l there. moved linked.attributes.items n (0 + n) l (omega arith) there) in
      let groups = table_told (λ l. l.head) (IsGroupOf parts) (IsGroup linked) (λ r. r.id) (λ r. r.label)
      (λ l r its. its.registered) (table parts GroupKind) linked.groups.items schema.groups are.tables.groups
      records.groups_are in
      let bindings = table_told (λ l. l.head) (IsBindingOf parts) (IsBinding linked) (λ r. r.id) (λ r. r.label)
      (λ l r its. its.registered) (table parts BindingKind) linked.bindings.items schema.bindings are.tables.bindings
      records.bindings_are in
      let actions = table_told (λ l. l.head) (IsActionOf parts) (IsAction ms linked) (λ r. r.id) (λ r. r.label)
      (λ l r its. its.registered) (table parts ActionKind) linked.actions.items schema.actions are.tables.actions
      records.actions_are in
      let notifications = table_told (λ l. l.head) (IsNotificationOf parts) (IsNotification ms linked) (λ r. r.id)
      (λ r. r.label) (λ l r its. its.registered) (table parts NotificationKind) linked.notifications.items
      schema.notifications are.tables.notifications records.notifications_are in
      told_append is (told_append is (told_append is (told_append is (told_append is classes attributes) groups)
      bindings) actions) notifications
