-- The numbers of the arcs so far.
use Rattle.std.proofs.Common.{◌≡◌, take}
use Rattle.std.specs.Prelude.{All, map}
use Rattle.gdmo_first_names.specs.ReadModules.{IsWhole}
use Rattle.gdmo_names.specs.FirstNames.{arc_value}
use Rattle.identifier_arcs.specs.ArcTexts.{tokens_said}
use Rattle.identifier_arcs.proofs.known_arcs.arc_values.Given as goal

abbrev pub invariant-loop-token : goal.invariant-loop-token
invariant-loop-token l = All IsWhole (tokens_said l.tokens) →
    l.values.items ≡ map arc_value (tokens_said (take l.token-index l.tokens))
