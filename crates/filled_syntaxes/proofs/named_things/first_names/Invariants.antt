-- Each name stands for what the last names so far give it.
use Rattle.std.proofs.Common.{◌≡◌, ◌-◌, ℕ, List, drop, length}
use Rattle.asn1_leaf_values.specs.FirstNames.{arcs_named}
use Rattle.filled_syntaxes.specs.KnownThings.{where_known}
use Rattle.filled_syntaxes.proofs.CountLaws.{arcs_in}
use Rattle.filled_syntaxes.proofs.named_things.first_names.Given as goal

abbrev pub invariant-loop-behind : goal.invariant-loop-behind
invariant-loop-behind l = (name : List ℕ) →
    arcs_named l.names name ≡ where_known (arcs_in (drop (length l.told - l.behind) l.told)) name
