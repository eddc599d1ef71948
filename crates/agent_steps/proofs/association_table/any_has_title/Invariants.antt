use Rattle.std.proofs.Common.{◌≡◌, false, take}
use Rattle.std.specs.List.{list_any}
use Rattle.std.specs.Option.{option_map_or}
use Rattle.agent_model.specs.AgentState.{numbered}
use Rattle.agent_model.specs.Binding.{has_title}
use Rattle.agent_steps.proofs.association_table.any_has_title.Given as goal

-- none of those so far has it
abbrev pub invariant-loop-number : goal.invariant-loop-number
invariant-loop-number l =
    list_any (λ n. option_map_or (has_title l.title) (numbered l.associations n) false) (take l.number-index l.numbers)
    ≡ false
