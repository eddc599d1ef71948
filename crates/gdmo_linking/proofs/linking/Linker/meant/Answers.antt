-- A type, a value, a type of CMIP-1.
use Rattle.gdmo_names.specs.PartTerms.{module_terms_of}
use Rattle.gdmo_linking.proofs.NameLaws.{nothing_meant, standard_meant, type_meant, value_meant}
use Rattle.gdmo_linking.proofs.linking.Linker.meant.Goals as goal

pub returns-in-TypeAt : goal.returns-in-TypeAt
returns-in-TypeAt c = λ parts meaning is known means.
    type_meant (module_terms_of parts) c.args.name.now c.args.meaning c.in-TypeAt.number meaning c.assigned.result
    c.in-TypeAt.is means (λ numbered at. c.assigned.ensures parts numbered is at)

pub returns-in-ValueAt : goal.returns-in-ValueAt
returns-in-ValueAt c = λ parts meaning is known means.
    value_meant (module_terms_of parts) c.args.name.now c.args.meaning c.in-ValueAt.number meaning c.assigned-in-ValueAt.result
    c.in-ValueAt.is means (λ numbered at. c.assigned-in-ValueAt.ensures parts numbered is at)

pub returns-in_ok-token-in-Standard : goal.returns-in_ok-token-in-Standard
returns-in_ok-token-in-Standard c = λ parts meaning is known means.
    standard_meant (module_terms_of parts) c.args.name.now c.in_ok-token-in-Standard.field-0 c.args.meaning c.in-Standard.field-0
    meaning c.in-Standard.is means c.in_ok-token-in-Standard.ensures

pub returns-in_ok-token-in-Nothing : goal.returns-in_ok-token-in-Nothing
returns-in_ok-token-in-Nothing c = λ parts meaning is known means.
    nothing_meant (module_terms_of parts) c.args.name.now c.args.meaning meaning _ c.in-Nothing.is means known
