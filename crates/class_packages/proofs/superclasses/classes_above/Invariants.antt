-- As many rounds as are left give the whole.
use Rattle.std.proofs.Common.{◌≡◌, ◌-◌, length}
use Rattle.term_model.specs.PresentPackages.{classes_above, with_superclasses}
use Rattle.class_packages.proofs.superclasses.classes_above.Given as goal

abbrev pub invariant-loop-round : goal.invariant-loop-round
invariant-loop-round l =
    with_superclasses l.records (length l.records - l._round) l.items.items ≡ classes_above l.records l.class
