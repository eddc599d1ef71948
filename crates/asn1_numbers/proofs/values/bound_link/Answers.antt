-- Digits.
use Rattle.std.proofs.Common.{ap, sym}
use Rattle.std.proofs.Math.Path.{subst}
use Rattle.asn1_names.specs.TermViews.{bound_term, module_terms}
use Rattle.asn1_numbers.specs.NumberedValues.{TellsSaid}
use Rattle.asn1_numbers.proofs.values.bound_link.Goals as goal

pub returns-in-Number : goal.returns-in-Number
returns-in-Number c =
    subst (λ x. TellsSaid (module_terms c.args.tables.now) c.args.home x c.signed_number.result)
    (sym (ap bound_term c.in-Number.is)) (c.signed_number.ensures (module_terms c.args.tables.now) c.args.home)
