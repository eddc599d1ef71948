-- The assignment that has the base.
use Rattle.std.proofs.Math.Path.{subst}
use Rattle.asn1_names.specs.TermViews.{module_terms}
use Rattle.asn1_numbers.specs.NumberedBases.{TellsBase}
use Rattle.asn1_numbers.proofs.number_tables.Numbers.base_at.Goals as goal

pub returns-in-Some-clause-found : goal.returns-in-Some-clause-found
returns-in-Some-clause-found c = λ m of is. c.base_of_end.ensures.found c.args.number m of
    (subst (TellsBase (module_terms c.args.self.now) c.args.number) c.in-Some.is c.base_end.ensures) is
