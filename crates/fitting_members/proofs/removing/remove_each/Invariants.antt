-- What was removed so far, with what is left to remove, is the whole.
use Rattle.std.proofs.Common.{◌≡◌, List, drop}
use Rattle.term_values.specs.SetMembers.{removed}
use Rattle.term_values.specs.Syntaxes.{TypeSyntax}
use Rattle.term_values.specs.Typed.{TypedValue, listed}
use Rattle.term_values.specs.Written.{der}
use Rattle.fitting_members.specs.Changing.{IsRemoving}
use Rattle.fitting_members.specs.MemberPlaces.{AreRising}
use Rattle.fitting_members.proofs.removing.remove_each.Given as goal

abbrev pub invariant-loop-value : goal.invariant-loop-value
invariant-loop-value l =
    (removed (der l.member) (listed l.fn.items.items) l.given
    ≡ removed (der l.member) (listed l.items.items) (listed (drop l.value-index l.value-items)))
    × AreRising (der l.member) l.items.items
    × ((permitted : List TypeSyntax) → (before : List TypedValue)
    → IsRemoving l.member permitted before l.fn.items.items l.fn.made
    → IsRemoving l.member permitted before l.items.items l.made)
