-- The rest, noted among those that were found, gives the whole.
use Rattle.std.proofs.Common.{◌≡◌, drop, []}
use Rattle.term_model.specs.Creation.{noted_all}
use Rattle.class_packages.proofs.attribute_ids.noted_all.Given as goal

abbrev pub invariant-loop-id : goal.invariant-loop-id
invariant-loop-id l = noted_all l.found.items (drop l.id-index l.ids) ≡ noted_all [] l.ids
