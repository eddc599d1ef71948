use Rattle.std.proofs.Common.{◌≡◌, ◌-◌, drop}
use Rattle.cmis_filter.specs.Rising.{do_rise}
use Rattle.cmis_filter.proofs.held_values.do_rise.Given as goal

abbrev pub invariant-loop-next : goal.invariant-loop-next
invariant-loop-next l = do_rise (drop (l.next - 1) l.attributes) ≡ do_rise l.attributes
