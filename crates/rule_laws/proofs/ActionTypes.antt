-- ActionTypes: the types of the information and of the reply of an action of the documents are those of the linked one,
-- and they are there (X.722, section 8.10; docs/PROFILE.md, section 12).
use Rattle.std.specs.Prelude.{◌≡◌, ℕ, Option, None, Some, IfSome, slice_get}
use Rattle.std.proofs.Common.{◌∙◌, sym}
use Rattle.std.proofs.Math.Path.{subst}
use Rattle.std.proofs.lemmas.List.Elements.{All-contains}
use Rattle.std.proofs.lemmas.Option.{same_Some}
use Rattle.token_grammar.specs.declared.qualified_name.QualifiedName.{QualifiedName}
use Rattle.asn1_names.specs.NodeCount.{IsNoType}
use Rattle.gdmo_names.specs.DocumentTemplates.{templates}
use Rattle.gdmo_names.specs.PartTerms.{PartTerms, Placed, body_of, module_terms_of}
use Rattle.gdmo_names.specs.RuleWords.{IsKnownType, information_of, reply_of}
use Rattle.gdmo_names.specs.TemplateTerms.{BodyTerm}
use Rattle.gdmo_names.specs.TemplateTerms.BodyTerm.{ActionBody, AttributeBody, BehaviourBody, BindingBody, ClassBody}
use Rattle.gdmo_names.specs.TemplateTerms.BodyTerm.{GroupBody, NotificationBody, PackageBody, ParameterBody}
use Rattle.gdmo_names.specs.TemplateTerms.TemplateKind.{ActionKind}
use Rattle.gdmo_linking.specs.LinkedNames.{IsOptionalName}
use Rattle.gdmo_linking.specs.LinkedTables.{table}
use Rattle.gdmo_linking.proofs.StepLaws.{each_at}
use Rattle.linked_parts.specs.declared.linked.Linked.{Linked}
use Rattle.linked_parts.specs.declared.linked.LinkedAction.{LinkedAction}
use Rattle.linked_parts.specs.declared.linked.LinkedName.{LinkedName}
use Rattle.linked_templates.specs.LinkedMembers.{IsActionOf}
use Rattle.linked_templates.specs.TemplateTables.{AreLinkedTemplates, IsTemplate}
use Rattle.schema_records.proofs.ClassLaws.{at_contains}
use Rattle.meant_names.specs.WantedMeanings.{AreWanted, AreWantedTypes, MeansType}
use Rattle.wanted_laws.proofs.MeaningLaws.{same_meaning}

module _ (parts : PartTerms) where
  -- the types that a body states are linked so
  pub record AreActionTypes (body : BodyTerm) (part : LinkedAction) : Type 0 where
    pub information : IsOptionalName parts (information_of body) part.information
    pub reply : IsOptionalName parts (reply_of body) part.reply

  -- they are there, where they are stated
  pub record AreKnownTypes (body : BodyTerm) : Type 0 where
    pub information : IsKnownType parts (information_of body)
    pub reply : IsKnownType parts (reply_of body)

  body_types : (document : ℕ) (body : BodyTerm) (part : LinkedAction) → IsActionOf parts document body part →
      AreActionTypes body part
  body_types document (ActionBody _ _ _ _ _) part is =
      record { information = is.is_information; reply = is.is_reply }
  body_types document (ClassBody _ _ _) part is = absurd is
  body_types document (PackageBody _ _ _ _ _) part is = absurd is
  body_types document (ParameterBody _ _) part is = absurd is
  body_types document (BindingBody _ _ _ _ _ _ _ _) part is = absurd is
  body_types document (AttributeBody _ _ _ _) part is = absurd is
  body_types document (GroupBody _ _) part is = absurd is
  body_types document BehaviourBody part is = absurd is
  body_types document (NotificationBody _ _ _ _ _) part is = absurd is

  type_known : (stated : Option QualifiedName) (name : Option LinkedName) → IsOptionalName parts stated name →
      IfSome name (MeansType (module_terms_of parts)) → IsKnownType parts stated
  type_known None None is means = tt
  type_known None (Some x) is means = absurd is
  type_known (Some name) None is means = absurd is
  type_known (Some name) (Some x) is means = λ none.
      means (subst IsNoType (sym (same_meaning (module_terms_of parts) name x.meaning is.meant)) none)

  pub types_known : (linked : Linked) → AreWanted (module_terms_of parts) linked → (k : ℕ) (body : BodyTerm)
      (part : LinkedAction) → slice_get linked.actions.items k ≡ Some part → AreActionTypes body part →
      AreKnownTypes body
  types_known linked wanted k body part stands types =
      let are_wanted = All-contains
      (λ (x : LinkedAction). AreWantedTypes (module_terms_of parts) x.information x.reply) linked.actions.items part
      wanted.of_actions (at_contains linked.actions.items k part stands) in record {
        information = type_known (information_of body) part.information types.information
            are_wanted.of_information;
        reply = type_known (reply_of body) part.reply types.reply are_wanted.of_reply;
      }

  pub action_types : (linked : Linked) → AreLinkedTemplates parts (templates parts) linked → (k : ℕ)
      (action : Placed) (part : LinkedAction) → slice_get (table parts ActionKind) k ≡ Some action →
      slice_get linked.actions.items k ≡ Some part → AreActionTypes (body_of action.template) part
  action_types linked tables k action part at stands =
      let found = each_at (IsTemplate parts (λ y. y.head) (IsActionOf parts)) (table parts ActionKind)
      linked.actions.items k action tables.actions at in
      subst (AreActionTypes (body_of action.template)) (same_Some found.0 part (sym found.1 ∙ stands))
      (body_types action.document (body_of action.template) found.0 found.2.1)
