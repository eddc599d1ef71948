-- The type of an assignment, by what is left of it.
use Rattle.std.proofs.Common.{◌≡◌, None}
use Rattle.std.proofs.Math.Path.{subst}
use Rattle.asn1_names.specs.AssignmentNumbers.{numbered_at}
use Rattle.asn1_names.specs.CodeMeanings.{IsTypeOf}
use Rattle.asn1_names.specs.TermViews.{module_terms, type_term}
use Rattle.gdmo_first_names.proofs.IdentifierLaws.{absent_type, type_told}
use Rattle.gdmo_first_names.proofs.identifier_types.has_identifier_type.Goals as goal

pub returns-in-Some : goal.returns-in-Some
returns-in-Some c = λ m of type. type_told (module_terms c.args.numbers.now) c.args.number c.in-Some.home m
    (type_term c.in-Some.of.now) of c.base.result c.is_identifier_base.result
    (subst (λ ms. IsTypeOf (module_terms ms) c.args.number c.in-Some.home (type_term c.in-Some.of.now))
    c.tables.ensures c.in-Some.ensures) c.base.ensures.found c.is_identifier_base.ensures type

pub returns-in-None : goal.returns-in-None
returns-in-None c = λ m of type. absent_type (module_terms c.args.numbers.now) c.args.number m of
    (subst (λ ms. numbered_at (module_terms ms) c.args.number ≡ None) c.tables.ensures c.in-None.ensures) type
