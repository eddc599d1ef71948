-- FieldLaws: each field of a linked notification is a component of its information, alike the syntax of its attribute,
-- in documents without a fault of labels and of classes (X.722, section 8.11; docs/PROFILE.md, section 12).
use Rattle.std.specs.Prelude.{◌≡◌, ◌∷◌, [], ℕ, List, Option, None, Some, All, Contains, IfSome, refl}
use Rattle.std.proofs.Common.{sym}
use Rattle.std.proofs.Math.Path.{subst}
use Rattle.std.proofs.lemmas.List.Elements.{All-cons, All-nil}
use Rattle.token_grammar.specs.declared.qualified_name.QualifiedName.{QualifiedName}
use Rattle.token_grammar.specs.declared.token.Token.{Token}
use Rattle.term_values.specs.MatchingKinds.{beneath_tags}
use Rattle.term_values.specs.Syntaxes.{TypeSyntax}
use Rattle.term_model.specs.WholeRecords.{HasField}
use Rattle.asn1_names.specs.ModuleTerms.{ModuleTerm}
use Rattle.asn1_names.specs.NodeCount.{IsNoType}
use Rattle.gdmo_names.specs.AttributeSyntaxes.{IsComponentOf}
use Rattle.gdmo_names.specs.DocumentTemplates.{templates}
use Rattle.gdmo_names.specs.FirstLabelFault.{AreFaultless as AreLabelsFaultless}
use Rattle.gdmo_names.specs.FirstLabelFault.LabelFault.{KindWrong}
use Rattle.gdmo_names.specs.Mentions.Role.{FieldAttribute}
use Rattle.gdmo_names.specs.PartTerms.{Placed, PartTerms, body_of, module_terms_of}
use Rattle.gdmo_names.specs.TemplateTerms.{BodyTerm, FieldTerms, ReferenceTerm}
use Rattle.gdmo_names.specs.TemplateTerms.BodyTerm.{ActionBody, AttributeBody, BehaviourBody, BindingBody, ClassBody}
use Rattle.gdmo_names.specs.TemplateTerms.BodyTerm.{GroupBody, NotificationBody, PackageBody, ParameterBody}
use Rattle.gdmo_names.specs.TemplateTerms.FieldTerms.{Field, NoFields}
use Rattle.gdmo_names.specs.TemplateTerms.TemplateKind.{NotificationKind}
use Rattle.gdmo_names.specs.TypeMeaning.{qualified_meaning}
use Rattle.gdmo_names.specs.WrongKinds.{HasField as StatesField, IsField}
use Rattle.gdmo_names.specs.WrongKinds.HasField.{has_field}
use Rattle.gdmo_names.specs.WrongKinds.IsField.{first, later}
use Rattle.gdmo_names.specs.WrongKinds.WrongKindAt.{no_component}
use Rattle.gdmo_linking.specs.LinkedNames.{IsLinkedName, IsOptionalName}
use Rattle.gdmo_linking.specs.LinkedTables.{Links}
use Rattle.linked_parts.specs.declared.linked.Linked.{Linked}
use Rattle.linked_parts.specs.declared.linked.LinkedField.{LinkedField}
use Rattle.linked_parts.specs.declared.linked.LinkedName.{LinkedName}
use Rattle.linked_parts.specs.declared.linked.LinkedNotification.{LinkedNotification}
use Rattle.linked_templates.specs.LinkedMembers.{AreFields, IsNotificationOf}
use Rattle.linked_documents.specs.LinkedParts.{AreLinkedParts}
use Rattle.filled_syntaxes.specs.FilledSyntaxes.{texts_beside}
use Rattle.filled_syntaxes.specs.LinkedMeanings.{linked_arcs}
use Rattle.class_faults.specs.AttributeSyntaxes.{AttributeHas}
use Rattle.class_faults.specs.FirstClassFault.{AreFaultless}
use Rattle.class_faults.specs.StatedProperties.{TypeHas}
use Rattle.registered_laws.proofs.TableLaws.{each_linked}
use Rattle.meant_names.specs.WantedMeanings.{AreWantedTypes, MeansType}
use Rattle.wanted_laws.proofs.MeaningLaws.{same_meaning}
use Rattle.wanted_laws.proofs.WantedLaws.{parts_wanted}
use Rattle.alike_laws.specs.InformationFields.{HasInformation, HaveInformation, StandBeside}
use Rattle.alike_laws.proofs.AttributeLaws.{IsAttributeAt, known_syntax, named_type}
use Rattle.alike_laws.proofs.ComponentLaws.{field_or_not, field_there}
use Rattle.alike_laws.proofs.DecidingLaws.{unless_not}
use Rattle.alike_laws.proofs.TypeLaws.{filled_of, lead_by, name_said}

-- a field of a linked notification is a component of the type of its information, alike the syntax of its attribute
pub record IsLinkedField (ms : List ModuleTerm) (linked : Linked) (information : Option LinkedName)
    (field : LinkedField) : Type 0 where
  pub type : LinkedName
  pub states : information ≡ Some type
  pub there : (syntax own : TypeSyntax) → TypeHas ms linked type syntax → AttributeHas ms linked field.attribute own →
      HasField (beneath_tags syntax) field.name.text own

-- the fields of a notification
abbrev pub AreLinkedFields : List ModuleTerm → Linked → LinkedNotification → Type 0
AreLinkedFields ms linked x = All (IsLinkedField ms linked x.information) x.fields.items

module _ (parts : PartTerms) (linked : Linked) (are : AreLinkedParts parts linked) (labels : AreLabelsFaultless parts)
    (faultless : AreFaultless (module_terms_of parts) linked) where
  -- ---- a component that is of the type of an attribute

  component_field : (information : QualifiedName) (name : List ℕ) (attribute : Placed) (type : LinkedName) (k : ℕ) →
      IsLinkedName parts information type → IsAttributeAt parts attribute k →
      IsComponentOf parts information name attribute → (syntax own : TypeSyntax) →
      TypeHas (module_terms_of parts) linked type syntax → AttributeHas (module_terms_of parts) linked k own →
      HasField (beneath_tags syntax) name own
  component_field information name attribute type k is at of syntax own has attribute_has =
      let ms = module_terms_of parts in
      let its = named_type parts linked are k at of.of_type ms own attribute_has in
      let whole = name_said parts linked faultless information type is syntax has in
      let single = name_said parts linked faultless of.own its.0 its.1 own its.2 in
      field_there (linked_arcs linked) (texts_beside ms (qualified_meaning ms information))
      (texts_beside ms (qualified_meaning ms of.own)) name of.place of.syntax own
      (record {
        stand = record {
          to = lead_by (of.place ∷ []) [] (λ j rest. (of.defaults j rest).0);
          from = lead_by [] (of.place ∷ []) (λ j rest. (of.defaults j rest).1);
        };
        filled = filled_of of.has single;
        said = single.said;
      })
      of.whole syntax of.component (filled_of of.is whole) whole.said

  -- ---- the fields of a notification

  module _ (by : Placed) (stands : Contains (templates parts) by) where
    -- a notification with a type of its information
    module _ (information : QualifiedName) (type : LinkedName) (is : IsLinkedName parts information type)
        (means : MeansType (module_terms_of parts) type) where
      field_linked : (name : Token) (reference : ReferenceTerm) (x : LinkedField) →
          StatesField information name reference (body_of by.template) → name ≡ x.name →
          Links parts by.document FieldAttribute reference x.attribute → (syntax own : TypeSyntax) →
          TypeHas (module_terms_of parts) linked type syntax →
          AttributeHas (module_terms_of parts) linked x.attribute own → HasField (beneath_tags syntax) x.name.text own
      field_linked name reference x has same links syntax own type_has attribute_has =
          subst (λ (n : Token). HasField (beneath_tags syntax) n.text own) same
          (unless_not (field_or_not (beneath_tags syntax) name.text own)
          (λ unlike. labels KindWrong by.document name.at (no_component (record {
            by = by;
            stands = stands;
            is_in = refl;
            information = information;
            reference = reference;
            has = has;
            known_type = λ none. means (subst IsNoType
                (sym (same_meaning (module_terms_of parts) information type.meaning is.meant)) none);
            attribute = links.to;
            means = links.means;
            known = known_syntax parts linked are labels x.attribute links.at;
            other = λ of. unlike (component_field information name.text links.to type x.attribute is links.at of syntax
                own type_has attribute_has);
          }) refl)))

      fields_linked : (fields : FieldTerms) (xs : List LinkedField) → ((name : Token) (reference : ReferenceTerm) →
          IsField name reference fields → StatesField information name reference (body_of by.template)) →
          AreFields parts by.document fields xs → All (IsLinkedField (module_terms_of parts) linked (Some type)) xs
      fields_linked NoFields [] has told = All-nil (IsLinkedField (module_terms_of parts) linked (Some type))
      fields_linked NoFields (x ∷ xs) has told = absurd told
      fields_linked (Field name attribute rest) [] has told = absurd told
      fields_linked (Field name attribute rest) (x ∷ xs) has told =
          All-cons (IsLinkedField (module_terms_of parts) linked (Some type)) x xs (record {
            type = type;
            states = refl;
            there = field_linked name attribute x (has name attribute first) told.0 told.1;
          }) (fields_linked rest xs (λ n reference further. has n reference (later further)) told.2)

    no_fields : (Is : LinkedField → Type 0) (fields : FieldTerms) (xs : List LinkedField) → fields ≡ NoFields →
        AreFields parts by.document fields xs → All Is xs
    no_fields Is NoFields [] none told = All-nil Is
    no_fields Is NoFields (x ∷ xs) none told = absurd told
    no_fields Is (Field name attribute rest) xs none told = absurd (cc)

    fields_by : (stated : FieldTerms) (xs : List LinkedField) (information : Option QualifiedName)
        (type : Option LinkedName) → IsOptionalName parts information type →
        IfSome type (MeansType (module_terms_of parts)) → StandBeside information stated →
        ((own : QualifiedName) (name : Token) (reference : ReferenceTerm) → information ≡ Some own →
        IsField name reference stated → StatesField own name reference (body_of by.template)) →
        AreFields parts by.document stated xs → All (IsLinkedField (module_terms_of parts) linked type) xs
    fields_by stated xs None type is means none has told =
        no_fields (IsLinkedField (module_terms_of parts) linked type) stated xs none told
    fields_by stated xs (Some own) None is means none has told = absurd is
    fields_by stated xs (Some own) (Some type) is means none has told = fields_linked own type is means stated xs
        (λ name reference field. has own name reference refl field) told

    notification_linked : HasInformation (body_of by.template) → (x : LinkedNotification) →
        IsNotificationOf parts by.document (body_of by.template) x →
        AreWantedTypes (module_terms_of parts) x.information x.reply →
        AreLinkedFields (module_terms_of parts) linked x
    notification_linked informed x told wanted = in_body (body_of by.template) refl informed told
      where
        in_body : (body : BodyTerm) → body_of by.template ≡ body → HasInformation body →
            IsNotificationOf parts by.document body x → AreLinkedFields (module_terms_of parts) linked x
        in_body (NotificationBody behaviours parameters information stated reply) same beside is =
            fields_by stated x.fields.items information x.information is.is_information wanted.of_information beside
            (λ own name reference states field. subst (StatesField own name reference) (sym same)
            (subst (λ type. StatesField own name reference (NotificationBody behaviours parameters type stated reply))
            (sym states) (has_field field))) is.fields_are
        in_body (ClassBody _ _ _) same beside is = absurd is
        in_body (PackageBody _ _ _ _ _) same beside is = absurd is
        in_body (ParameterBody _ _) same beside is = absurd is
        in_body (BindingBody _ _ _ _ _ _ _ _) same beside is = absurd is
        in_body (AttributeBody _ _ _ _) same beside is = absurd is
        in_body (GroupBody _ _) same beside is = absurd is
        in_body BehaviourBody same beside is = absurd is
        in_body (ActionBody _ _ _ _ _) same beside is = absurd is

  -- so it is in each linked notification
  pub notifications_linked : HaveInformation parts →
      All (AreLinkedFields (module_terms_of parts) linked) linked.notifications.items
  notifications_linked informed =
      let ms = module_terms_of parts in
      let by_wanted = each_linked parts (λ z. z.head) (IsNotificationOf parts)
      (λ (x : LinkedNotification). AreWantedTypes ms x.information x.reply → AreLinkedFields ms linked x)
      NotificationKind (templates parts) linked.notifications.items
      (λ by x stands told wanted. notification_linked by stands.stands (informed by stands.stands) x told.1 wanted)
      are.tables.notifications in
      λ n default within. by_wanted n default within
      ((parts_wanted parts linked are labels).of_notifications n default within)
