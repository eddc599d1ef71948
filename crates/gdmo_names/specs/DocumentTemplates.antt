-- DocumentTemplates: the templates of a set of documents, those in line too, each with the number of its document
-- (X.722, section 8.2; docs/PROFILE.md, section 12). A template has its kind, its label, its identifier and the place
-- of its label; in which order the clauses stand has no part here.
use Rattle.std.specs.Prelude.{List, [], ◌∷◌, ◌++◌, map, flat_map}
use Rattle.gdmo_names.specs.PartTerms.{Placed, PartTerms}
use Rattle.gdmo_names.specs.TemplateTerms.{ReferenceTerm, ReferenceTerms, TemplateTerm, BodyTerm}
use Rattle.gdmo_names.specs.TemplateTerms.{SyntaxTerm, StatedTerm, UseTerms, RowTerms, LifeTerm, FieldTerms}
use Rattle.gdmo_names.specs.TemplateTerms.ReferenceTerm.{ByLabel, InLine}
use Rattle.gdmo_names.specs.TemplateTerms.ReferenceTerms.{NoReferences, Reference}
use Rattle.gdmo_names.specs.TemplateTerms.TemplateTerm.{Template}
use Rattle.gdmo_names.specs.TemplateTerms.BodyTerm.{ClassBody, PackageBody, ParameterBody, BindingBody}
use Rattle.gdmo_names.specs.TemplateTerms.BodyTerm.{AttributeBody, GroupBody, BehaviourBody, ActionBody}
use Rattle.gdmo_names.specs.TemplateTerms.BodyTerm.{NotificationBody}
use Rattle.gdmo_names.specs.TemplateTerms.SyntaxTerm.{OfType, OfAttribute}
use Rattle.gdmo_names.specs.TemplateTerms.StatedTerm.{NotStated, StatedValue, ByRule}
use Rattle.gdmo_names.specs.TemplateTerms.UseTerms.{NoUses, Use}
use Rattle.gdmo_names.specs.TemplateTerms.RowTerms.{NoRows, Row}
use Rattle.gdmo_names.specs.TemplateTerms.LifeTerm.{NoLife, Life}
use Rattle.gdmo_names.specs.TemplateTerms.FieldTerms.{NoFields, Field}

abbrev mutual
  -- a template and those that stand in line in it
  pub in_template : TemplateTerm → List TemplateTerm
  in_template (Template label identifier body) = Template label identifier body ∷ in_body body

  pub in_reference : ReferenceTerm → List TemplateTerm
  in_reference (ByLabel label) = []
  in_reference (InLine template) = in_template template

  pub in_references : ReferenceTerms → List TemplateTerm
  in_references NoReferences = []
  in_references (Reference x xs) = in_reference x ++ in_references xs

  pub in_body : BodyTerm → List TemplateTerm
  in_body (ClassBody superclasses mandatory conditional) =
      in_references superclasses ++ (in_references mandatory ++ in_references conditional)
  in_body (PackageBody behaviours attributes groups actions notifications) = in_references behaviours
      ++ (in_uses attributes ++ (in_rows groups ++ (in_rows actions ++ in_rows notifications)))
  in_body (ParameterBody syntax behaviours) = in_syntax syntax ++ in_references behaviours
  in_body (BindingBody below below_all above above_all attribute behaviours create delete) = in_reference below
      ++ (in_reference above ++ (in_reference attribute ++ (in_references behaviours
      ++ (in_life create ++ in_life delete))))
  in_body (AttributeBody syntax rules behaviours parameters) =
      in_syntax syntax ++ (in_references behaviours ++ in_references parameters)
  in_body (GroupBody elements fixed) = in_references elements
  in_body BehaviourBody = []
  in_body (ActionBody behaviours confirmed parameters information reply) =
      in_references behaviours ++ in_references parameters
  in_body (NotificationBody behaviours parameters information fields reply) =
      in_references behaviours ++ (in_references parameters ++ in_fields fields)

  pub in_syntax : SyntaxTerm → List TemplateTerm
  in_syntax (OfType name) = []
  in_syntax (OfAttribute attribute) = in_reference attribute

  pub in_stated : StatedTerm → List TemplateTerm
  in_stated NotStated = []
  in_stated (StatedValue name) = []
  in_stated (ByRule rule) = in_reference rule

  pub in_uses : UseTerms → List TemplateTerm
  in_uses NoUses = []
  in_uses (Use attribute default initial permitted required words parameters rest) = in_reference attribute
      ++ (in_stated default ++ (in_stated initial ++ (in_references parameters ++ in_uses rest)))

  pub in_rows : RowTerms → List TemplateTerm
  in_rows NoRows = []
  in_rows (Row x xs rest) = in_reference x ++ (in_references xs ++ in_rows rest)

  pub in_life : LifeTerm → List TemplateTerm
  in_life NoLife = []
  in_life (Life words parameters) = in_references parameters

  pub in_fields : FieldTerms → List TemplateTerm
  in_fields NoFields = []
  in_fields (Field name attribute rest) = in_reference attribute ++ in_fields rest

-- a template in line stands in the document of the one round it
abbrev pub placed_templates : Placed → List Placed
placed_templates x = map (λ template. record { document = x.document; template = template }) (in_template x.template)

unfoldable pub templates : PartTerms → List Placed
templates parts = flat_map placed_templates parts.outermost
