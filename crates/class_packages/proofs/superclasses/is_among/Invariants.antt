-- None of the identifiers so far is it.
use Rattle.std.proofs.Common.{◌≡◌, take, false}
use Rattle.term_model.specs.PresentPackages.{is_among}
use Rattle.class_packages.proofs.superclasses.is_among.Given as goal

abbrev pub invariant-loop-other : goal.invariant-loop-other
invariant-loop-other l = is_among (take l.other-index l.ids) l.id ≡ false
