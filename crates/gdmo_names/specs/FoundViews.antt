-- FoundViews: templates as the code finds them, as the definitions see them: each as what stands in a document
-- (X.722, section 8; docs/PROFILE.md, section 12).
use Rattle.std.specs.Prelude.{◌≡◌, ℕ, List, Option, None, Some, map, option_map, slice_get}
use Rattle.std.specs.Borrow.{Bor}
use Rattle.indexmap.specs.IndexMap.{IndexMap}
use Rattle.token_grammar.specs.declared.token.Token.{Token}
use Rattle.asn1_names.specs.FirstNames.{found}
use Rattle.gdmo_names.specs.ClassViews.{class_term, package_term, binding_term}
use Rattle.gdmo_names.specs.DocumentTemplates.{templates}
use Rattle.gdmo_names.specs.LabelMeaning.{label_meaning}
use Rattle.gdmo_names.specs.MemberViews.{attribute_term, parameter_term, group_term, action_term, notification_term}
use Rattle.gdmo_names.specs.MemberViews.{identifier_term}
use Rattle.gdmo_names.specs.PartTerms.{Placed, PartTerms, body_of}
use Rattle.gdmo_names.specs.TemplateTerms.{TemplateTerm, BodyTerm, ReferenceTerm}
use Rattle.gdmo_names.specs.TemplateTerms.BodyTerm.{BehaviourBody}
use Rattle.gdmo_names.specs.TemplateTerms.ReferenceTerm.{ByLabel, InLine as InLineTerm}
use Rattle.gdmo_names.specs.TemplateTerms.TemplateTerm.{Template}
use Rattle.gdmo_names.specs.declared.found.Body.{Body}
use Rattle.gdmo_names.specs.declared.found.Body.TheVariants as bodies
use Rattle.gdmo_names.specs.declared.found.Found.{Found}
use Rattle.gdmo_names.specs.declared.found.Target.{Target}
use Rattle.gdmo_names.specs.declared.found.Target.TheVariants.{Label, InLine}

-- what the clauses of a template say
abbrev pub body_term : Body → BodyTerm
body_term (bodies.Class x) = body_of (class_term x.now)
body_term (bodies.Package x) = body_of (package_term x.now)
body_term (bodies.Parameter x) = body_of (parameter_term x.now)
body_term (bodies.Binding x) = body_of (binding_term x.now)
body_term (bodies.Attribute x) = body_of (attribute_term x.now)
body_term (bodies.Group x) = body_of (group_term x.now)
body_term (bodies.Behaviour x) = BehaviourBody
body_term (bodies.Action x) = body_of (action_term x.now)
body_term (bodies.Notification x) = body_of (notification_term x.now)

-- a template that was found, with its document
abbrev pub found_term : Found → TemplateTerm
found_term x = Template x.label.now (option_map (λ y. identifier_term y.now) x.identifier) (body_term x.body)

abbrev pub found_view : Found → Placed
found_view x = record { document = x.document; template = found_term x }

abbrev pub found_views : List Found → List Placed
found_views xs = map found_view xs

-- the templates that were found are those of the documents, in their order
abbrev pub AreTemplates : PartTerms → List Found → Type 0
AreTemplates parts xs = found_views xs ≡ templates parts

-- the template that has a number
abbrev pub numbered : List Placed → Option ℕ → Option Placed
numbered xs None = None
numbered xs (Some n) = slice_get xs n

-- the numbers of a table are those of the templates that labels mean
abbrev pub AreLabels : {S : Type 0} → PartTerms → List Found → IndexMap (Bor (List ℕ)) ℕ S → Type 0
AreLabels parts xs table = (label : List ℕ) → numbered (found_views xs) (found table label) ≡ label_meaning parts label

-- what a reference in a document points at: a label, or the template that stands there in line
pub data Pointed : Type 0 where
  AtLabel : Token → Pointed
  AtTemplate : Placed → Pointed

abbrev pub pointed : ℕ → ReferenceTerm → Pointed
pointed document (ByLabel label) = AtLabel label
pointed document (InLineTerm template) = AtTemplate (record { document = document; template = template })

abbrev pub target_view : List Placed → Target → Option Pointed
target_view xs (Label label) = Some (AtLabel label.now)
target_view xs (InLine n) = option_map AtTemplate (slice_get xs n)

-- the number of the template that a target means
abbrev pub target_number : {S : Type 0} → IndexMap (Bor (List ℕ)) ℕ S → Target → Option ℕ
target_number table (Label label) = found table label.now.text
target_number table (InLine n) = Some n

-- the code's target is this reference in the document
abbrev pub IsReference : List Found → ℕ → Target → ReferenceTerm → Type 0
IsReference xs document target reference = target_view (found_views xs) target ≡ Some (pointed document reference)
