-- The value that the first assignment of a name has, and none.
use Rattle.asn1_names.specs.NameMeaning.{assigned_in}
use Rattle.asn1_names.specs.TermViews.{module_terms}
use Rattle.gdmo_first_names.proofs.NameSteps.{nothing_first, standard_first, type_first, value_first}
use Rattle.gdmo_first_names.proofs.assigned_names.is_first_value.Goals as goal

pub returns-in-ValueAt : goal.returns-in-ValueAt
returns-in-ValueAt c = value_first (module_terms c.args.tables.now) c.in-ValueAt.first c.args.number
    (assigned_in (module_terms c.args.tables.now) c.args.home c.args.name.now) c.in-ValueAt.ensures

pub returns-in-TypeAt : goal.returns-in-TypeAt
returns-in-TypeAt c = type_first (module_terms c.args.tables.now) c.in-TypeAt.field-0 c.args.number
    (assigned_in (module_terms c.args.tables.now) c.args.home c.args.name.now) c.in-TypeAt.ensures

pub returns-in-Standard : goal.returns-in-Standard
returns-in-Standard c = standard_first (module_terms c.args.tables.now) _ c.args.number
    (assigned_in (module_terms c.args.tables.now) c.args.home c.args.name.now) c.in-Standard.ensures

pub returns-in-Nothing : goal.returns-in-Nothing
returns-in-Nothing c = nothing_first (module_terms c.args.tables.now) c.args.number
    (assigned_in (module_terms c.args.tables.now) c.args.home c.args.name.now) c.in-Nothing.ensures
