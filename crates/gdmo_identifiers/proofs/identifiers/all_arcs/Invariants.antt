-- The templates so far.
use Rattle.gdmo_identifiers.proofs.TemplateLaws.{ArcsSoFar}
use Rattle.gdmo_identifiers.proofs.identifiers.all_arcs.Given as goal

abbrev pub invariant-loop-found : goal.invariant-loop-found
invariant-loop-found l = ArcsSoFar l.fn.known l.known l.templates l.found-index l.lists.items
