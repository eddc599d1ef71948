-- The rest, added to what was found so far, gives the whole.
use Rattle.std.proofs.Common.{◌≡◌, drop}
use Rattle.term_model.specs.PresentPackages.{with_new}
use Rattle.class_packages.proofs.superclasses.add_new.Given as goal

abbrev pub invariant-loop-id : goal.invariant-loop-id
invariant-loop-id l = with_new l.found.items (drop l.id-index l.ids) ≡ with_new l.fn.found.items l.ids
