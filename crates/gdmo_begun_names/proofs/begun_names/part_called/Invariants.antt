-- The part of the name is among those that are left.
use Rattle.std.proofs.Common.{◌≡◌, drop}
use Rattle.term_values.specs.PartsView.{parts_listed}
use Rattle.gdmo_begun_names.specs.PartNames.{syntax_called}
use Rattle.gdmo_begun_names.proofs.begun_names.part_called.Given as goal

abbrev pub invariant-loop-part : goal.invariant-loop-part
invariant-loop-part l =
    syntax_called l.name (parts_listed (drop l.part-index l.part-items)) ≡ syntax_called l.name l.fn.parts
