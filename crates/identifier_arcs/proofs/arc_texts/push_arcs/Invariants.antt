-- The tokens of the arcs so far.
use Rattle.std.proofs.Common.{◌≡◌, ◌++◌, take}
use Rattle.std.specs.Prelude.{map}
use Rattle.gdmo_names.specs.MemberViews.{arc_number}
use Rattle.identifier_arcs.specs.ArcTexts.{tokens_said}
use Rattle.identifier_arcs.proofs.arc_texts.push_arcs.Given as goal

abbrev pub invariant-loop-arc : goal.invariant-loop-arc
invariant-loop-arc l =
    tokens_said l.numbers.items ≡ tokens_said l.fn.numbers.items ++ map arc_number (take l.arc-index l.arcs)
