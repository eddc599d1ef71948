use Rattle.std.proofs.Common.{subst, sym}
use Rattle.term_model.specs.NamedObjects.{IsByName}
use Rattle.term_model.proofs.MapLaws.{none_rise}
use Rattle.term_model.proofs.objects.Objects.new.Goals as goal

pub invariant_of-result : goal.invariant_of-result
invariant_of-result c = subst IsByName (sym c.new.ensures.items) none_rise
