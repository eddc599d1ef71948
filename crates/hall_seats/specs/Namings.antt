-- Namings: what tells one shared state from others; README.md.
use Rattle.std.specs.Prelude.{ℕ, []}
use Rattle.atomic_table.specs.Seated.{TableId}
use Rattle.agent_model.specs.declared.agent_state.AgentState.{AgentState}
use Rattle.agent_model.specs.declared.limits.Limits.{Limits}
use Rattle.agent_model.specs.Starting.{started}
use Rattle.term_model.specs.declared.schema.Set.{Set}

-- the table and the ledger that a roll is of, and into how many parts the ledger is cut
pub record Identity : Type 0 where
  pub table : TableId
  pub name : ℕ
  pub parts : ℕ

-- of a name that is no shared state's: no table
abbrev pub no_table : TableId
no_table = record { words = 0; slots = 0; views_name = 0; atom = 0; block = 0; offset = 0; slot_names = [] }

no_schema : Set
no_schema = record {
  classes = [];
  attributes = [];
  groups = [];
  bindings = [];
  actions = [];
  notifications = [];
  rules = [];
  instances = [];
  system = [];
}

no_limits : Limits
no_limits = record { entries = 0; text = 0; untaken = 0; associations = 0 }

-- of such a name: an agent with nothing
pub no_start : AgentState
no_start = started no_schema no_limits []
