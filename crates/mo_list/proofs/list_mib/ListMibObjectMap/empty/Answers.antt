use Rattle.term_model.proofs.MapLaws.{none_rise}
use Rattle.mo_list.proofs.list_mib.ListMibObjectMap.empty.Goals as goal

pub invariant_of-result : goal.invariant_of-result
invariant_of-result g c = none_rise
