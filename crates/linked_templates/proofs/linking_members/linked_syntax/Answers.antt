-- A type, or another attribute.
use Rattle.gdmo_names.specs.InStep.{AreAll}
use Rattle.std.proofs.Common.{◌≡◌, ◌∷◌, [], sym}
use Rattle.std.proofs.Math.Path.{subst}
use Rattle.linked_parts.specs.declared.linked.LinkedSyntax.TheVariants.{OfType as LinkedType, OfAttribute as LinkedBase}
use Rattle.gdmo_linking.specs.InRoles.{only}
use Rattle.linked_templates.specs.LinkedMembers.{IsSyntax}
use Rattle.gdmo_linking.specs.Linkers.{IsNamed}
use Rattle.linked_templates.proofs.BodyLaws.{attribute_base}
use Rattle.linked_templates.proofs.MemberLaws.{once_in_body}
use Rattle.gdmo_names.specs.FoundViews.{body_term}
use Rattle.gdmo_names.specs.MemberViews.{attribute_reference, attribute_syntax_term, attribute_term, behaviour_terms}
use Rattle.gdmo_names.specs.MemberViews.{clause_terms, clause_tokens, parameter_reference}
use Rattle.gdmo_names.specs.Mentions.{body_mentions, mention}
use Rattle.gdmo_names.specs.Mentions.Role.{BaseAttribute}
use Rattle.gdmo_names.specs.PartTerms.{body_of}
use Rattle.gdmo_names.specs.TemplateTerms.BodyTerm.{AttributeBody}
use Rattle.gdmo_names.specs.TypeMeaning.{syntax_types, type_names}
use Rattle.linked_templates.proofs.linking_members.linked_syntax.Goals as goal

pub returns-in_ok-name-in-TypeReference : goal.returns-in_ok-name-in-TypeReference
returns-in_ok-name-in-TypeReference c = λ parts is body.
    let types = subst (λ b. AreAll (IsNamed parts) (type_names b)) body is.types in
    let own = subst (λ s. AreAll (IsNamed parts) (syntax_types (attribute_syntax_term s))) c.in-TypeReference.is types in
    subst (λ s. IsSyntax parts c.args.found.now.document (attribute_syntax_term s) (LinkedType c.in_ok-name-in-TypeReference.field-0))
    (sym c.in-TypeReference.is) (c.in_ok-name-in-TypeReference.ensures parts is.knows own.0)

pub returns-in_ok-first_in_role-in-Derived : goal.returns-in_ok-first_in_role-in-Derived
returns-in_ok-first_in_role-in-Derived c = λ parts is body.
    let t = c.args.attribute.now in
    let base = c.in-Derived.field-0 in
    subst (λ s. IsSyntax parts c.args.found.now.document (attribute_syntax_term s)
    (LinkedBase c.in_ok-first_in_role-in-Derived.field-0)) (sym c.in-Derived.is)
    (c.in_ok-first_in_role-in-Derived.ensures parts (mention BaseAttribute (attribute_reference base)) is
    (once_in_body BaseAttribute (body_term c.args.found.now.body) (body_of (attribute_term t))
    (mention BaseAttribute (attribute_reference base)) body
    (subst (λ s. only BaseAttribute (body_mentions (AttributeBody (attribute_syntax_term s) (clause_tokens t.rules)
    (behaviour_terms t.behaviour) (clause_terms parameter_reference t.parameters))) ≡
    mention BaseAttribute (attribute_reference base) ∷ []) (sym c.in-Derived.is)
    (attribute_base (attribute_reference base) (clause_tokens t.rules) (behaviour_terms t.behaviour)
    (clause_terms parameter_reference t.parameters)))))
