-- A type that is named, and another attribute.
use Rattle.std.proofs.Common.{◌∙◌, Some, ap}
use Rattle.asn1_names.specs.TermViews.{module_terms}
use Rattle.gdmo_names.specs.AttributeSyntaxes.{syntax_of}
use Rattle.gdmo_names.specs.FoundViews.{body_term, found_view}
use Rattle.gdmo_names.specs.MemberViews.{attribute_reference, attribute_syntax_term}
use Rattle.gdmo_types.proofs.TypeChainLaws.{derived_told, typed_told, untyped_told}
use Rattle.gdmo_types.proofs.attribute_types.stated_type.Goals as goal

pub returns-in-Some : goal.returns-in-Some
returns-in-Some c = λ parts same no_base.
    typed_told parts (found_view c.args.found.now) (module_terms c.args.types.now) c.in-TypeReference.name
    c.in-Some.meaning same (ap (λ body. syntax_of (body_term body)) c.in-Attribute.is ∙
    ap (λ syntax. Some (attribute_syntax_term syntax)) c.in-TypeReference.is) c.in-Some.ensures

pub returns-in-None : goal.returns-in-None
returns-in-None c = λ parts same no_base.
    untyped_told parts (found_view c.args.found.now) (module_terms c.args.types.now) c.in-TypeReference.name
    same (ap (λ body. syntax_of (body_term body)) c.in-Attribute.is ∙
    ap (λ syntax. Some (attribute_syntax_term syntax)) c.in-TypeReference.is) c.in-None.ensures

pub returns-in-Derived : goal.returns-in-Derived
returns-in-Derived c = λ parts same no_base.
    derived_told parts (found_view c.args.found.now) (attribute_reference c.in-Derived.field-0)
    (ap (λ body. syntax_of (body_term body)) c.in-Attribute.is ∙
    ap (λ syntax. Some (attribute_syntax_term syntax)) c.in-Derived.is) no_base
