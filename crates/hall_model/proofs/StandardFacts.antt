-- Units and maps along a journal of one object, computed.
use Rattle.std.specs.Prelude.{◌≡◌, List, [], ◌∷◌, true, false, None, refl}
use Rattle.term_model.specs.declared.name.Rdn.{Rdn}
use Rattle.term_model.proofs.ExampleNetwork.{element, id_oid, network}
use Rattle.agent_model.specs.declared.agent_state.AgentState.{AgentState}
use Rattle.agent_model.specs.declared.agent_state.Work.TheVariants as work
use Rattle.agent_model.specs.declared.entry.Entry.TheVariants as entry
use Rattle.agent_model.specs.AgentLimits.{shipped}
use Rattle.agent_model.specs.Starting.{started}
use Rattle.agent_model.specs.Stepping.{step}
use Rattle.lock_model.specs.LockPath.{tree}
use Rattle.hall_model.specs.JournalMaps.{is_commit, map_after, work_unit}

abbrev five : List Rdn
five = record { attribute = id_oid; value = 2 ∷ 1 ∷ 5 ∷ [] } ∷ []

abbrev agent : AgentState
agent = started network shipped (record { name = five; object = element } ∷ [])

-- an append writes its log with all records
append_writes : work_unit network (work.Append five None) ≡ record { unit = tree five; writing = true }
append_writes = refl

-- what is granted, ends for want of memory or begins is no commit
commits : is_commit (entry.Committed 1) ≡ true
commits = refl

starves : is_commit (entry.Starved 1) ≡ false
starves = refl

begins : is_commit (entry.Begun 1 five) ≡ false
begins = refl

-- no association is there to be finished, so that the entry is not legal: the map is what it was
stays : map_after agent (entry.Finished 1 ∷ []) 0 ≡ record { name = five; object = element } ∷ []
unfolding step
stays = refl
