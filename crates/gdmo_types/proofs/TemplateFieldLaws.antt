-- TemplateFieldLaws: what is wrong with the fields of one template, and with those of all templates.
use Rattle.std.proofs.Common.{◌≡◌, ◌⊎◌, ◌∙◌, ◌∷◌, [], ℕ, List, Option, Some, ap, inl, inr, refl, sym}
use Rattle.std.proofs.Math.Path.{subst}
use Rattle.std.proofs.lemmas.Option.{same_Some}
use Rattle.std.specs.declared.alloc.Global.{Global}
use Rattle.std.specs.declared.vec.Vec.{Vec}
use Rattle.token_grammar.specs.declared.qualified_name.QualifiedName.{QualifiedName}
use Rattle.token_grammar.specs.declared.token.Token.{Token}
use Rattle.gdmo_members.specs.declared.notification.Field.{Field as FieldText}
use Rattle.gdmo_members.specs.declared.notification.Information.{Information}
use Rattle.gdmo_members.specs.declared.notification.NotificationTemplate.{NotificationTemplate}
use Rattle.gdmo_names.specs.DocumentTemplates.{templates}
use Rattle.gdmo_names.specs.FaultSets.{AnyOf, Notes}
use Rattle.gdmo_names.specs.FirstLabelFault.{LabelFault}
use Rattle.gdmo_names.specs.FirstLabelFault.LabelFault.{KindWrong}
use Rattle.gdmo_names.specs.LabelMeaning.{Means}
use Rattle.gdmo_names.specs.MemberViews.{attribute_reference, behaviour_terms, clause_terms, field_terms}
use Rattle.gdmo_names.specs.MemberViews.{fields_of, information_fields, information_type, notification_term}
use Rattle.gdmo_names.specs.MemberViews.{parameter_reference}
use Rattle.gdmo_names.specs.Mentions.Role.{FieldAttribute}
use Rattle.gdmo_names.specs.PartTerms.{Placed, PartTerms, body_of}
use Rattle.gdmo_names.specs.TemplateTerms.{BodyTerm, FieldTerms, ReferenceTerm}
use Rattle.gdmo_names.specs.TemplateTerms.BodyTerm.{NotificationBody}
use Rattle.gdmo_names.specs.TemplateTerms.FieldTerms.{NoFields, Field}
use Rattle.gdmo_names.specs.WrongKinds.{HasField, IsField}
use Rattle.gdmo_names.specs.WrongKinds.HasField.{has_field}
use Rattle.gdmo_names.specs.WrongKinds.IsField.{first, later}
use Rattle.gdmo_names.specs.declared.first_fault.LabelFault.{LabelFault as NotedFault}
use Rattle.gdmo_names.proofs.NotingLaws.{noted_by}
use Rattle.gdmo_types.specs.FieldFaults.{AreFieldsOf, FieldFault, FieldFaults, IsOtherField}
use Rattle.gdmo_types.specs.FieldFaults.{TemplateFields}
use Rattle.gdmo_types.proofs.PlaceFaultLaws.{any_found, any_noted}

-- ---- a field of a notification, as a function that computes

abbrev IsAmong : Token → ReferenceTerm → FieldTerms → Type 0
IsAmong name reference NoFields = ⊥
IsAmong name reference (Field its its_reference rest) =
    ((its ≡ name) × (its_reference ≡ reference)) ⊎ IsAmong name reference rest

among : {name : Token} {reference : ReferenceTerm} {fields : FieldTerms} → IsField name reference fields →
    IsAmong name reference fields
among first = inl (refl, refl)
among (later h) = inr (among h)

field_among : (name : Token) (reference : ReferenceTerm) (fields : FieldTerms) → IsAmong name reference fields →
    IsField name reference fields
field_among name reference NoFields h = absurd h
field_among name reference (Field its its_reference rest) (inl (e, f)) =
    subst (λ r. IsField name reference (Field its r rest)) (sym f)
    (subst (λ n. IsField name reference (Field n reference rest)) (sym e) first)
field_among name reference (Field its its_reference rest) (inr h) = later (field_among name reference rest h)

abbrev IsSaid : QualifiedName → Token → ReferenceTerm → BodyTerm → Type 0
IsSaid information name reference (NotificationBody behaviours parameters type fields reply) =
    (type ≡ Some information) × IsAmong name reference fields
IsSaid information name reference _ = ⊥

said : {information : QualifiedName} {name : Token} {reference : ReferenceTerm} {body : BodyTerm} →
    HasField information name reference body → IsSaid information name reference body
said (has_field h) = (refl, among h)

-- ---- the fields of one template

-- some field has the fault
record IsFaultOf (parts : PartTerms) (document : ℕ) (information : QualifiedName) (fields : FieldTerms)
    (kind : LabelFault) (its_document token : ℕ) : Type 0 where
  name : Token
  reference : ReferenceTerm
  is : IsAmong name reference fields
  other : IsOtherField parts document information name reference
  is_kind : KindWrong ≡ kind
  is_in : document ≡ its_document
  is_at : name.at ≡ token

fault_of : (parts : PartTerms) (document : ℕ) (information : QualifiedName) (xs : List FieldText) (k : LabelFault)
    (d t : ℕ) → AnyOf (FieldFault parts document information) xs k d t →
    IsFaultOf parts document information (field_terms xs) k d t
fault_of parts document information [] k d t fault = absurd fault
fault_of parts document information (x ∷ xs) k d t (inl here) = record {
  name = x.name;
  reference = attribute_reference x.attribute;
  is = inl (refl, refl);
  other = here.0;
  is_kind = here.1;
  is_in = here.2;
  is_at = here.3;
}
fault_of parts document information (x ∷ xs) k d t (inr behind) =
    let rest = fault_of parts document information xs k d t behind in record {
      name = rest.name;
      reference = rest.reference;
      is = inr rest.is;
      other = rest.other;
      is_kind = rest.is_kind;
      is_in = rest.is_in;
      is_at = rest.is_at;
    }

of_fault : (parts : PartTerms) (document : ℕ) (information : QualifiedName) (xs : List FieldText) (k : LabelFault)
    (d t : ℕ) (name : Token) (reference : ReferenceTerm) → IsAmong name reference (field_terms xs) →
    IsOtherField parts document information name reference → KindWrong ≡ k → document ≡ d → name.at ≡ t →
    AnyOf (FieldFault parts document information) xs k d t
of_fault parts document information [] k d t name reference h other is_kind is_in is_at = absurd h
of_fault parts document information (x ∷ xs) k d t name reference (inl (e, f)) other is_kind is_in is_at = inl (
  subst (λ r. IsOtherField parts document information x.name r) (sym f)
      (subst (λ n. IsOtherField parts document information n reference) (sym e) other),
  is_kind,
  is_in,
  ap (λ (n : Token). n.at) e ∙ is_at,
)
of_fault parts document information (x ∷ xs) k d t name reference (inr h) other is_kind is_in is_at =
    inr (of_fault parts document information xs k d t name reference h other is_kind is_in is_at)

-- what is noted of its fields is noted of the template
pub template_noted : (parts : PartTerms) (by : Placed) (information : QualifiedName) (fields : List FieldText)
    {before after : Option NotedFault} → AreFieldsOf (body_of by.template) information fields →
    Notes (AnyOf (FieldFault parts by.document information) fields) before after →
    Notes (TemplateFields parts by) before after
template_noted parts by information fields are noted =
    noted_by (AnyOf (FieldFault parts by.document information) fields) (TemplateFields parts by)
    (λ k d t fault. let it = fault_of parts by.document information fields k d t fault in (
      it.name,
      record {
        information = information;
        reference = it.reference;
        has = subst (HasField information it.name it.reference) (sym are.is)
            (has_field (field_among it.name it.reference (field_terms fields) it.is));
        other = it.other;
      },
      it.is_kind,
      it.is_in,
      it.is_at,
    ))
    (λ k d t fault.
    let it = fault.1 in
    let says = subst (IsSaid it.information fault.0 it.reference) are.is (said it.has) in
    of_fault parts by.document information fields k d t fault.0 it.reference says.1
    (subst (λ n. IsOtherField parts by.document n fault.0 it.reference)
    (sym (same_Some information it.information says.0)) it.other) fault.2 fault.3 fault.4) noted

-- what a notification says of its fields
pub notification_fields : (body : BodyTerm) (x : NotificationTemplate) (information : Information)
    (fields : Vec FieldText Global) (items : List FieldText) → body ≡ body_of (notification_term x) →
    x.information ≡ Some information → information.fields ≡ Some fields → items ≡ fields.items →
    AreFieldsOf body information.syntax items
notification_fields body x information fields items e is_there are_there same = record {
  behaviours = behaviour_terms x.behaviour;
  parameters = clause_terms parameter_reference x.parameters;
  reply = x.reply;
  is = e ∙ ((λ i. NotificationBody (behaviour_terms x.behaviour) (clause_terms parameter_reference x.parameters)
      (information_type (is_there i)) (information_fields (is_there i)) x.reply) ∙
      (λ i. NotificationBody (behaviour_terms x.behaviour) (clause_terms parameter_reference x.parameters)
      (Some information.syntax) ((ap fields_of are_there ∙ ap field_terms (sym same)) i) x.reply));
}

-- ---- all templates

pub all_noted : (parts : PartTerms) {before after : Option NotedFault} →
    Notes (AnyOf (TemplateFields parts) (templates parts)) before after → Notes (FieldFaults parts) before after
all_noted parts noted = noted_by (AnyOf (TemplateFields parts) (templates parts)) (FieldFaults parts)
    (λ k d t fault.
    let found = any_found (TemplateFields parts) (templates parts) k d t fault in
    let at = found.2 in
    let it = at.1 in (
      at.0,
      record {
        by = found.0;
        stands = found.1;
        is_in = at.3;
        information = it.information;
        reference = it.reference;
        has = it.has;
        known_type = it.other.known_type;
        attribute = it.other.attribute;
        means = subst (λ n. Means parts n FieldAttribute it.reference it.other.attribute) at.3 it.other.means;
        known = it.other.known;
        other = it.other.other;
      },
      at.2,
      at.4,
    ))
    (λ k d t fault. let it = fault.1 in any_noted (TemplateFields parts) (templates parts) it.by k d t it.stands (
      fault.0,
      record {
        information = it.information;
        reference = it.reference;
        has = it.has;
        other = record {
          known_type = it.known_type;
          attribute = it.attribute;
          means = subst (λ n. Means parts n FieldAttribute it.reference it.attribute) (sym it.is_in) it.means;
          known = it.known;
          other = it.other;
        };
      },
      fault.2,
      it.is_in,
      fault.3,
    )) noted
