-- The identifier stands behind those so far.
use Rattle.std.proofs.Common.{◌≡◌, ◌++◌, drop, take}
use Rattle.term_model.specs.Creation.{noted}
use Rattle.class_packages.proofs.attribute_ids.note.Given as goal

abbrev pub invariant-loop-at : goal.invariant-loop-at
invariant-loop-at l = noted l.id l.other-items ≡ take l.at l.other-items ++ noted l.id (drop l.at l.other-items)
