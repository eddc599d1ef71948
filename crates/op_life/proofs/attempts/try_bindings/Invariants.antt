-- The rest leads to the same attempt.
use Rattle.std.proofs.Common.{◌≡◌, drop}
use Rattle.std.specs.Prelude.{None}
use Rattle.term_model.specs.Creating.{attempted}
use Rattle.op_life.specs.Attempting.{binds_by, tried_all}
use Rattle.op_life.proofs.attempts.try_bindings.Given as goal

abbrev pub invariant-loop-binding : goal.invariant-loop-binding
invariant-loop-binding l =
    tried_all (binds_by l.subordinate l.superior l.creation.named.attribute)
    (attempted l.schema l.wanted.clause l.wanted.with_reference l.creation l.outline) l.best
    (drop l.binding-index l.binding-items)
    ≡ tried_all (binds_by l.subordinate l.superior l.creation.named.attribute)
    (attempted l.schema l.wanted.clause l.wanted.with_reference l.creation l.outline) None l.binding-items
