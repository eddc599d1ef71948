-- Well-formed objects stay so, whatever is in a journal: X.720, sections 5 and 6. Each part of a journal from its
-- beginning is a journal, so the objects are well-formed behind each of its entries.
use Rattle.std.specs.Prelude.{List}
use Rattle.agent_model.specs.declared.agent_state.AgentState.{AgentState}
use Rattle.agent_model.specs.declared.entry.Entry.{Entry}
use Rattle.term_model.specs.WellFormedObjects.{AreGood}
use Rattle.agent_model.specs.Journals.{replayed}

abbrev pub ObjectsStayGood : Type 0
ObjectsStayGood =
    (agent : AgentState) (journal : List Entry) → AreGood agent.schema agent.objects
    → AreGood agent.schema (replayed agent journal).objects
