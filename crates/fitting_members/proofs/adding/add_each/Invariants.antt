-- What was added so far, with what is left to add, is the whole.
use Rattle.std.proofs.Common.{◌≡◌, List, drop}
use Rattle.term_values.specs.SetMembers.{added}
use Rattle.term_values.specs.Typed.{TypedValue, listed}
use Rattle.term_values.specs.Written.{der}
use Rattle.fitting_members.specs.Changing.{IsAdding}
use Rattle.fitting_members.specs.MemberPlaces.{AreRising}
use Rattle.fitting_members.proofs.adding.add_each.Given as goal

abbrev pub invariant-loop-value : goal.invariant-loop-value
invariant-loop-value l =
    (added (der l.member) (listed l.fn.items.items) l.given
    ≡ added (der l.member) (listed l.items.items) (listed (drop l.value-index l.value-items)))
    × AreRising (der l.member) l.items.items
    × ((before : List TypedValue) → IsAdding l.member l.permitted before l.fn.items.items l.fn.made
    → IsAdding l.member l.permitted before l.items.items l.made)
