-- None of the components, or alternatives, so far.
use Rattle.std.proofs.Common.{take}
use Rattle.begun_values.specs.DefaultNames.{AlternativeFirsts, ComponentFirsts, MayFirsts}
use Rattle.begun_values.proofs.ListedLaws.{NoneDefined}
use Rattle.begun_values.proofs.default_values.+default_names.Given as goal

abbrev pub invariant-have_names-loop-component : goal.invariant-have_names-loop-component
invariant-have_names-loop-component l =
    NoneDefined (ComponentFirsts MayFirsts) l.names (take l.component-index l.component-items)

abbrev pub invariant-have_names-loop-alternative : goal.invariant-have_names-loop-alternative
invariant-have_names-loop-alternative l =
    NoneDefined (AlternativeFirsts MayFirsts) l.names (take l.alternative-index l.alternative-items)
