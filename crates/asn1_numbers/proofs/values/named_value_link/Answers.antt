-- A named number of the value's type, and a name that is none.
use Rattle.std.proofs.Common.{Some}
use Rattle.asn1_names.specs.ModuleTerms.NumberTerm.{Called}
use Rattle.asn1_names.specs.TermViews.{bound_term, module_terms}
use Rattle.asn1_numbers.proofs.ValueLaws.{stated_type}
use Rattle.asn1_numbers.proofs.ValueLinkLaws.{named_link, unnamed_link}
use Rattle.asn1_numbers.proofs.values.named_value_link.Goals as goal

pub returns-in-Some : goal.returns-in-Some
returns-in-Some c = λ m of assigns.
    let ms = module_terms c.args.tables.now in
    let name = c.args.name.now in
    named_link ms c.args.number m c.in-Some.home of name (bound_term c.in-Some.bound.now) c.bound_link.result.0
    c.bound_link.result.1 assigns
    (c.in-Some.ensures m of (stated_type ms c.args.number m of (Some (Called name)) assigns)) c.bound_link.ensures

pub returns-in-None : goal.returns-in-None
returns-in-None c = λ m of assigns.
    let ms = module_terms c.args.tables.now in
    let name = c.args.name.now in
    unnamed_link ms c.args.number m of name assigns
    (c.in-None.ensures m of (stated_type ms c.args.number m of (Some (Called name)) assigns))
