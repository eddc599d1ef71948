-- One end more.
use Rattle.std.proofs.Common.{◌∙◌, ap, map}
use Rattle.std.proofs.lemmas.List.{take_all}
use Rattle.asn1_numbers.specs.NumberedValues.{value_at_end}
use Rattle.asn1_numbers.proofs.values.values_at_ends.Goals as goal

pub returns : goal.returns
returns c = c.loop-end.invariant ∙ ap (map (value_at_end c.args.own.now))
    (take_all c.loop-end.end-index c.args.ends.now c.loop-end-test.false)
