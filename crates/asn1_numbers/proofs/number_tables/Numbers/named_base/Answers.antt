-- The name of an assigned type, and that of a type of CMIP-1.
use Rattle.std.proofs.Common.{◌≡◌}
use Rattle.std.proofs.Math.Path.{subst}
use Rattle.asn1_names.specs.CodeMeanings.{IsTypeNumber, named_module, named_type}
use Rattle.asn1_names.specs.NameMeaning.{reference_meaning}
use Rattle.asn1_names.specs.NameMeaning.Meaning.{StandardType}
use Rattle.asn1_names.specs.TermViews.{module_terms}
use Rattle.asn1_names.specs.TypeBase.HasBase.{standard}
use Rattle.asn1_names.specs.WordViews.{standard_syntax_of}
use Rattle.asn1_numbers.proofs.BaseLaws.{found_named}
use Rattle.asn1_numbers.proofs.number_tables.Numbers.named_base.Goals as goal

pub returns-in-TypeAt-clause-found : goal.returns-in-TypeAt-clause-found
returns-in-TypeAt-clause-found c = λ limits.
    found_named (module_terms c.args.self.now) c.args.home c.in-TypeAt.number (named_module c.args.name.now)
    (named_type c.args.name.now) limits c.base_at.result
    (subst (λ v. IsTypeNumber (module_terms v) c.in-TypeAt.number (reference_meaning (module_terms v) c.args.home
    (named_module c.args.name.now) (named_type c.args.name.now))) c.self.view_is c.in-TypeAt.ensures)
    c.base_at.ensures.found

pub returns-in-Standard-clause-found : goal.returns-in-Standard-clause-found
returns-in-Standard-clause-found c = λ limits.
    standard (subst (λ v. reference_meaning (module_terms v) c.args.home (named_module c.args.name.now)
    (named_type c.args.name.now) ≡ StandardType (standard_syntax_of c.in-Standard.standard))
    c.self.view_is c.in-Standard.ensures)
