-- Starting: the agent before any entry; docs/PROFILE.md, section 7.
use Rattle.std.specs.Prelude.{List, []}
use Rattle.agent_model.specs.declared.agent_state.AgentState.{AgentState}
use Rattle.agent_model.specs.declared.limits.Limits.{Limits}
use Rattle.term_model.specs.declared.objects.NamedObject.{NamedObject}
use Rattle.term_model.specs.declared.schema.Set.{Set}

-- it has the objects at the opening, and nothing else
abbrev pub started : Set → Limits → List NamedObject → AgentState
started schema limits objects = record {
  schema = schema;
  limits = limits;
  objects = objects;
  associations = [];
  operations = [];
  waiting = [];
  entries = 0;
}
