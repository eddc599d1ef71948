-- The rest names the same packages.
use Rattle.std.proofs.Common.{◌≡◌, drop}
use Rattle.term_model.specs.Creation.{packages_named}
use Rattle.op_life.proofs.outlines.packages_named.Given as goal

abbrev pub invariant-loop-one : goal.invariant-loop-one
invariant-loop-one l =
    packages_named l.schema l.class (drop l.one-index l.given) ≡ packages_named l.schema l.class l.given
