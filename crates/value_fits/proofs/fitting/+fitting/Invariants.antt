use Rattle.std.proofs.Common.{◌≡◌, drop}
use Rattle.term_values.specs.PartsView.{parts_listed}
use Rattle.term_values.specs.SlotsView.{slots_listed}
use Rattle.term_values.specs.Typed.{listed}
use Rattle.term_values.specs.FitTest.{value_fits, parts_fit, all_fit}
use Rattle.value_fits.proofs.fitting.+fitting.Given as goal

abbrev pub invariant-parts_fit-loop-i : goal.invariant-parts_fit-loop-i
invariant-parts_fit-loop-i l =
    parts_fit (parts_listed l.items) (slots_listed l.held)
    ≡ parts_fit (parts_listed (drop l.i l.items)) (slots_listed (drop l.i l.held))

abbrev pub invariant-all_fit-loop-value : goal.invariant-all_fit-loop-value
invariant-all_fit-loop-value l =
    all_fit (value_fits l.member) (listed l.value-items)
    ≡ all_fit (value_fits l.member) (listed (drop l.value-index l.value-items))
