-- The named numbers that are handed over.
use Rattle.std.proofs.Common.{sym}
use Rattle.std.proofs.Math.Path.{subst}
use Rattle.asn1_names.specs.TermViews.{module_terms}
use Rattle.asn1_numbers.specs.NumberedBases.{AreMaps}
use Rattle.asn1_numbers.proofs.number_tables.Numbers.new.Goals as goal

pub values_of-requires-clause-maps : goal.values_of-requires-clause-maps
values_of-requires-clause-maps c =
    subst (λ maps. AreMaps (module_terms c.args.tables) maps) (sym c.deref-2.ensures.value) c.in_ok-maps.ensures
