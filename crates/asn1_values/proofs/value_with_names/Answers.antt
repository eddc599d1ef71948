-- A value that a text denotes fits.
use Rattle.std.proofs.Common.{rules}
use Rattle.asn1_values.proofs.Fitting.{value_fits}
use Rattle.asn1_values.proofs.value_with_names.Goals as goal
use Rattle.asn1_leaf_values.specs.FirstNames.{arcs_named}
use Rattle.asn1_leaf_values.specs.TextValues.{said}

pub returns-in-Ok-Some-clause-fits : goal.returns-in-Ok-Some-clause-fits
returns-in-Ok-Some-clause-fits c =
    value_fits (arcs_named c.args.names.now) c.args.syntax.now (said c.args.text.now) c.in-Ok-Some.value (search rules)
