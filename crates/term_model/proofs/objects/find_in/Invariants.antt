use Rattle.std.proofs.Common.{◌≡◌, drop}
use Rattle.term_model.specs.NamedObjects.{object_at}
use Rattle.term_model.proofs.objects.find_in.Given as goal

abbrev pub invariant-loop-entry : goal.invariant-loop-entry
invariant-loop-entry l = object_at (drop l.entry-index l.entries) l.name ≡ object_at l.entries l.name
