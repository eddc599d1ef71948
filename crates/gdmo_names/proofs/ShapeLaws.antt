-- ShapeLaws: what rows of a template name, element by element; and templates in line in boxes.
use Rattle.std.proofs.Math.Path.{subst}
use Rattle.std.proofs.Common.{◌≡◌, ◌∙◌, ℕ, List, [], ◌∷◌, ◌++◌, Option, None, Some, refl, sym, ap, option_map}
use Rattle.std.specs.Prelude.{flat_map}
use Rattle.std.specs.declared.alloc.Global.{Global}
use Rattle.std.specs.declared.boxed.Box.{Box}
use Rattle.std.specs.declared.vec.Vec.{Vec}
use Rattle.std.proofs.lemmas.List.{append-nil, append_assoc}
use Rattle.gdmo_classes.specs.declared.attribute_use.AttributeUse.{AttributeUse}
use Rattle.gdmo_classes.specs.declared.class.ClassReference.{ClassReference}
use Rattle.gdmo_classes.specs.declared.class.ClassReference.TheBlock.{hidden-the_row-ClassReference-0}
use Rattle.gdmo_classes.specs.declared.class.ClassReference.TheVariants.{Template as ClassInLine}
use Rattle.gdmo_classes.specs.declared.class.ObjectClassTemplate.{ObjectClassTemplate, Row_of-ClassReference}
use Rattle.gdmo_classes.specs.declared.class.ObjectClassTemplate.{back-ObjectClassTemplate-superclasses}
use Rattle.gdmo_classes.specs.declared.class.ObjectClassTemplate.{end_of-ClassReference, more_of-ClassReference}
use Rattle.gdmo_classes.specs.declared.class.ObjectClassTemplate.{items-the_row-ClassReference}
use Rattle.gdmo_classes.specs.declared.class.ObjectClassTemplate.{items_hidden-the_row-ClassReference-0}
use Rattle.gdmo_classes.specs.declared.class.ClassReference.TheVariants as classes
use Rattle.gdmo_classes.specs.declared.package.PackageReference.TheVariants as packages
use Rattle.gdmo_classes.specs.declared.package.PackageReference.{PackageReference}
use Rattle.gdmo_classes.specs.declared.references.ActionReference.TheVariants as actions
use Rattle.gdmo_classes.specs.declared.references.ActionReference.{ActionReference}
use Rattle.gdmo_classes.specs.declared.references.GroupReference.TheVariants as groups
use Rattle.gdmo_classes.specs.declared.references.GroupReference.{GroupReference}
use Rattle.gdmo_classes.specs.declared.references.NotificationReference.TheVariants as notifications
use Rattle.gdmo_classes.specs.declared.references.NotificationReference.{NotificationReference}
use Rattle.gdmo_members.specs.declared.attribute.AttributeReference.TheVariants as attributes
use Rattle.gdmo_members.specs.declared.attribute.AttributeReference.{AttributeReference}
use Rattle.gdmo_members.specs.declared.behaviour.BehaviourReference.TheVariants as behaviours
use Rattle.gdmo_members.specs.declared.behaviour.BehaviourReference.{BehaviourReference}
use Rattle.gdmo_members.specs.declared.parameter.ParameterReference.TheVariants as parameters
use Rattle.gdmo_members.specs.declared.attribute.AttributeReference.TheBlock.{hidden-the_row-ParameterReference-0}
use Rattle.gdmo_members.specs.declared.attribute.AttributeReference.TheVariants.{Template as AttributeInLine}
use Rattle.gdmo_members.specs.declared.attribute.AttributeTemplate.{AttributeTemplate, Row_of-ParameterReference}
use Rattle.gdmo_members.specs.declared.attribute.AttributeTemplate.{back-AttributeTemplate-parameters}
use Rattle.gdmo_members.specs.declared.attribute.AttributeTemplate.{end_of-ParameterReference}
use Rattle.gdmo_members.specs.declared.attribute.AttributeTemplate.{items-the_row-ParameterReference}
use Rattle.gdmo_members.specs.declared.attribute.AttributeTemplate.{items_hidden-the_row-ParameterReference-0}
use Rattle.gdmo_members.specs.declared.attribute.AttributeTemplate.{more_of-ParameterReference}
use Rattle.gdmo_members.specs.declared.notification.Field.{Field as FieldText}
use Rattle.gdmo_members.specs.declared.parameter.ParameterReference.{ParameterReference}
use Rattle.gdmo_members.specs.declared.parameter.ParameterTemplate.{ParameterTemplate}
use Rattle.gdmo_names.specs.ClassViews.{action_reference, class_reference, class_term, conditional_reference}
use Rattle.gdmo_names.specs.ClassViews.{group_reference, held_terms as held_classes, notification_reference}
use Rattle.gdmo_names.specs.ClassViews.{package_reference, row_terms as rows_terms, stated_term, superclass_terms}
use Rattle.gdmo_names.specs.ClassViews.{use_terms}
use Rattle.gdmo_names.specs.DocumentTemplates.{in_fields, in_reference, in_references, in_rows, in_stated, in_uses}
use Rattle.gdmo_names.specs.MemberViews.{attribute_reference, attribute_syntax_term, attribute_term}
use Rattle.gdmo_names.specs.MemberViews.{behaviour_reference, behaviour_terms}
use Rattle.gdmo_names.specs.MemberViews.{clause_terms, clause_tokens, field_terms, held_terms, identifier_term}
use Rattle.gdmo_names.specs.MemberViews.{parameter_reference, parameter_term, reference_terms, row_terms}
use Rattle.gdmo_names.proofs.FindingLaws.{target_in_line}
use Rattle.gdmo_names.specs.Mentions.{Role, field_mentions, mention, mentions, row_mentions, stated_mentions}
use Rattle.gdmo_names.specs.Mentions.{use_mentions}
use Rattle.gdmo_names.specs.Mentions.Role.{FieldAttribute, OfParameter, PackageAttribute}
use Rattle.gdmo_names.specs.FindingSteps.{FindsTarget, FindsTemplate}
use Rattle.gdmo_names.specs.declared.found.Finding.{Finding}
use Rattle.gdmo_names.specs.declared.found.Target.TheVariants as numbers
use Rattle.gdmo_names.specs.TargetTables.{Fits}
use Rattle.gdmo_names.specs.TemplateTerms.{ReferenceTerm, ReferenceTerms}
use Rattle.gdmo_names.specs.TemplateTerms.TemplateKind.{ActionKind, AttributeKind, BehaviourKind, ClassKind, GroupKind}
use Rattle.gdmo_names.specs.TemplateTerms.TemplateKind.{NotificationKind, PackageKind, ParameterKind}
use Rattle.gdmo_names.specs.TemplateTerms.BodyTerm.{AttributeBody, ClassBody}
use Rattle.gdmo_names.specs.TemplateTerms.ReferenceTerm.{InLine}
use Rattle.gdmo_names.specs.TemplateTerms.ReferenceTerms.{Reference}
use Rattle.gdmo_names.specs.TemplateTerms.TemplateTerm.{Template}

-- ---- rows

pub in_row : {X : Type 0} (view : X → ReferenceTerm) (xs : List X) →
    flat_map (λ x. in_reference (view x)) xs ≡ in_references (reference_terms view xs)
in_row view [] = refl
in_row view (x ∷ xs) = ap (λ ts. in_reference (view x) ++ ts) (in_row view xs)

pub named_row : {X : Type 0} (role : Role) (view : X → ReferenceTerm) (xs : List X) →
    flat_map (λ x. mention role (view x) ∷ []) xs ≡ mentions role (reference_terms view xs)
named_row role view [] = refl
named_row role view (x ∷ xs) = ap (λ ms. mention role (view x) ∷ ms) (named_row role view xs)

pub in_fields_row : (xs : List FieldText) →
    flat_map (λ (x : FieldText). in_reference (attribute_reference x.attribute)) xs ≡ in_fields (field_terms xs)
in_fields_row [] = refl
in_fields_row (x ∷ xs) = ap (λ ts. in_reference (attribute_reference x.attribute) ++ ts) (in_fields_row xs)

pub named_fields : (xs : List FieldText) →
    flat_map (λ (x : FieldText). mention FieldAttribute (attribute_reference x.attribute) ∷ []) xs
    ≡ field_mentions (field_terms xs)
named_fields [] = refl
named_fields (x ∷ xs) = ap (λ ms. mention FieldAttribute (attribute_reference x.attribute) ∷ ms) (named_fields xs)

-- parts of one element, before the rest
two_parts : {A : Type 0} (xs ys rest : List A) → (xs ++ (ys ++ [])) ++ rest ≡ xs ++ (ys ++ rest)
two_parts xs ys rest = append_assoc xs (ys ++ []) rest ∙ ap (λ zs. xs ++ (zs ++ rest)) (append-nil ys)

three_parts : {A : Type 0} (xs ys zs rest : List A) →
    (xs ++ (ys ++ (zs ++ []))) ++ rest ≡ xs ++ (ys ++ (zs ++ rest))
three_parts xs ys zs rest =
    append_assoc xs (ys ++ (zs ++ [])) rest ∙ ap (λ ws. xs ++ ws) (two_parts ys zs rest)

four_parts : {A : Type 0} (xs ys zs ws rest : List A) →
    (xs ++ (ys ++ (zs ++ (ws ++ [])))) ++ rest ≡ xs ++ (ys ++ (zs ++ (ws ++ rest)))
four_parts xs ys zs ws rest =
    append_assoc xs (ys ++ (zs ++ (ws ++ []))) rest ∙ ap (λ vs. xs ++ vs) (three_parts ys zs ws rest)

pub in_rows_row : {X : Type 0} (one : X → ReferenceTerm) (behind : X → ReferenceTerms) (xs : List X) →
    flat_map (λ x. in_rows (rows_terms one behind (x ∷ []))) xs ≡ in_rows (rows_terms one behind xs)
in_rows_row one behind [] = refl
in_rows_row one behind (x ∷ xs) =
    ap (λ ts. in_rows (rows_terms one behind (x ∷ [])) ++ ts) (in_rows_row one behind xs)
    ∙ two_parts (in_reference (one x)) (in_references (behind x)) (in_rows (rows_terms one behind xs))

pub named_rows : {X : Type 0} (role behind_role : Role) (one : X → ReferenceTerm) (behind : X → ReferenceTerms)
    (xs : List X) → flat_map (λ x. row_mentions role behind_role (rows_terms one behind (x ∷ []))) xs
    ≡ row_mentions role behind_role (rows_terms one behind xs)
named_rows role behind_role one behind [] = refl
named_rows role behind_role one behind (x ∷ xs) =
    ap (λ ms. row_mentions role behind_role (rows_terms one behind (x ∷ [])) ++ ms)
    (named_rows role behind_role one behind xs)
    ∙ two_parts (mention role (one x) ∷ []) (mentions behind_role (behind x))
    (row_mentions role behind_role (rows_terms one behind xs))

pub in_uses_row : (xs : List AttributeUse) →
    flat_map (λ (x : AttributeUse). in_uses (use_terms (x ∷ []))) xs ≡ in_uses (use_terms xs)
in_uses_row [] = refl
in_uses_row (x ∷ xs) = ap (λ ts. in_uses (use_terms (x ∷ [])) ++ ts) (in_uses_row xs)
    ∙ four_parts (in_reference (attribute_reference x.attribute)) (in_stated (stated_term x.properties.default_value))
    (in_stated (stated_term x.properties.initial_value))
    (in_references (reference_terms parameter_reference x.parameters.items)) (in_uses (use_terms xs))

pub named_uses : (xs : List AttributeUse) →
    flat_map (λ (x : AttributeUse). use_mentions (use_terms (x ∷ []))) xs ≡ use_mentions (use_terms xs)
named_uses [] = refl
named_uses (x ∷ xs) = ap (λ ms. use_mentions (use_terms (x ∷ [])) ++ ms) (named_uses xs)
    ∙ four_parts (mention PackageAttribute (attribute_reference x.attribute) ∷ [])
    (stated_mentions (stated_term x.properties.default_value))
    (stated_mentions (stated_term x.properties.initial_value))
    (mentions OfParameter (reference_terms parameter_reference x.parameters.items)) (use_mentions (use_terms xs))

-- ---- templates in boxes

parameter-list : {n : _} (row : Row_of-ParameterReference n) →
    row_terms row ≡ reference_terms parameter_reference (items-the_row-ParameterReference n row)
parameter-list end_of-ParameterReference = refl
parameter-list (more_of-ParameterReference parameter others) =
    ap (Reference (parameter_reference parameter)) (parameter-list others)

held_parameters : (x : Option (Vec ParameterReference Global)) →
    held_terms (back-AttributeTemplate-parameters x) ≡ clause_terms parameter_reference x
held_parameters None = refl
held_parameters (Some xs) = parameter-list (hidden-the_row-ParameterReference-0 xs)
    ∙ ap (reference_terms parameter_reference) (items_hidden-the_row-ParameterReference-0 xs)

pub attribute_in_line : (b : Box AttributeTemplate Global) →
    attribute_reference (AttributeInLine b) ≡ InLine (attribute_term b.value)
attribute_in_line b = ap (λ ps. InLine (Template b.value.label (option_map identifier_term b.value.registration)
    (AttributeBody (attribute_syntax_term b.value.syntax) (clause_tokens b.value.rules)
    (behaviour_terms b.value.behaviour) ps))) (held_parameters b.value.parameters)

class-list : {n : _} (row : Row_of-ClassReference n) →
    superclass_terms row ≡ reference_terms class_reference (items-the_row-ClassReference n row)
class-list end_of-ClassReference = refl
class-list (more_of-ClassReference class others) = ap (Reference (class_reference class)) (class-list others)

held_superclasses : (x : Option (Vec ClassReference Global)) →
    held_classes (back-ObjectClassTemplate-superclasses x) ≡ clause_terms class_reference x
held_superclasses None = refl
held_superclasses (Some xs) = class-list (hidden-the_row-ClassReference-0 xs)
    ∙ ap (reference_terms class_reference) (items_hidden-the_row-ClassReference-0 xs)

pub class_in_line : (b : Box ObjectClassTemplate Global) →
    class_reference (ClassInLine b) ≡ InLine (class_term b.value)
class_in_line b = ap (λ cs. InLine (Template b.value.label (Some (identifier_term b.value.registration))
    (ClassBody cs (clause_terms package_reference b.value.packages)
    (clause_terms conditional_reference b.value.conditional)))) (held_superclasses b.value.superclasses)

-- ---- what stands in line is of its kind

pub behaviour_fits : (x : BehaviourReference) → Fits BehaviourKind (behaviour_reference x)
behaviour_fits (behaviours.Label x) = tt
behaviour_fits (behaviours.Template x) = refl

pub attribute_fits : (x : AttributeReference) → Fits AttributeKind (attribute_reference x)
attribute_fits (attributes.Label x) = tt
attribute_fits (attributes.Template' _ _ _ _ _ _ _ _) = refl

pub parameter_fits : (x : ParameterReference) → Fits ParameterKind (parameter_reference x)
parameter_fits (parameters.Label x) = tt
parameter_fits (parameters.Template' _ _ _ _ _ _ _) = refl

pub group_fits : (x : GroupReference) → Fits GroupKind (group_reference x)
group_fits (groups.Label x) = tt
group_fits (groups.Template x) = refl

pub action_fits : (x : ActionReference) → Fits ActionKind (action_reference x)
action_fits (actions.Label x) = tt
action_fits (actions.Template x) = refl

pub notification_fits : (x : NotificationReference) → Fits NotificationKind (notification_reference x)
notification_fits (notifications.Label x) = tt
notification_fits (notifications.Template x) = refl

pub package_fits : (x : PackageReference) → Fits PackageKind (package_reference x)
package_fits (packages.Label x) = tt
package_fits (packages.Template x) = refl

pub class_fits : (x : ClassReference) → Fits ClassKind (class_reference x)
class_fits (classes.Label x) = tt
class_fits (classes.Template' _ _ _ _ _ _ _) = refl

-- ---- a reference to a template in a box

pub attribute_found : {a b : Finding} {n : ℕ} (x : AttributeReference) (box : Box AttributeTemplate Global)
    (of : AttributeTemplate) → x ≡ AttributeInLine box → of ≡ box.value → FindsTemplate a b n (attribute_term of) →
    FindsTarget a b (numbers.InLine n) (attribute_reference x)
attribute_found {a} {b} {n} x box of is same found = subst (λ (y : ReferenceTerm). FindsTarget a b (numbers.InLine n) y)
    (sym (ap attribute_reference is ∙ attribute_in_line box
    ∙ ap (λ (z : AttributeTemplate). InLine (attribute_term z)) (sym same))) (target_in_line found)

pub parameter_found : {a b : Finding} {n : ℕ} (x : ParameterReference) (box : Box ParameterTemplate Global)
    (of : ParameterTemplate) → x ≡ parameters.Template box → of ≡ box.value →
    FindsTemplate a b n (parameter_term of) → FindsTarget a b (numbers.InLine n) (parameter_reference x)
parameter_found {a} {b} {n} x box of is same found = subst (λ (y : ReferenceTerm). FindsTarget a b (numbers.InLine n) y)
    (sym (ap parameter_reference is ∙ ap (λ (z : ParameterTemplate). InLine (parameter_term z)) (sym same)))
    (target_in_line found)

pub class_found : {a b : Finding} {n : ℕ} (x : ClassReference) (box : Box ObjectClassTemplate Global)
    (of : ObjectClassTemplate) → x ≡ ClassInLine box → of ≡ box.value → FindsTemplate a b n (class_term of) →
    FindsTarget a b (numbers.InLine n) (class_reference x)
class_found {a} {b} {n} x box of is same found = subst (λ (y : ReferenceTerm). FindsTarget a b (numbers.InLine n) y)
    (sym (ap class_reference is ∙ class_in_line box ∙ ap (λ (z : ObjectClassTemplate). InLine (class_term z))
    (sym same))) (target_in_line found)
