-- The members without those of this encoding stay the same.
use Rattle.std.proofs.Common.{◌≡◌, List, [], ◌∷◌, length}
use Rattle.term_values.specs.SetMembers.{other_members}
use Rattle.term_values.specs.Syntaxes.{TypeSyntax}
use Rattle.term_values.specs.Typed.{TypedValue, listed}
use Rattle.term_values.specs.Written.{der}
use Rattle.fitting_members.specs.Changing.{IsRemoving}
use Rattle.fitting_members.specs.MemberPlaces.{AreRising, IsPlace, has_at}
use Rattle.fitting_members.proofs.removing.remove_equal.Given as goal

abbrev pub invariant-equal : goal.invariant-equal
invariant-equal l =
    (other_members (der l.member) (l.encoding ∷ []) (listed l.fn.items.items)
    ≡ other_members (der l.member) (l.encoding ∷ []) (listed l.items.items))
    × (l.had ≡ has_at (der l.member) l.encoding l.items.items l.at)
    × AreRising (der l.member) l.items.items × IsPlace (der l.member) l.encoding l.items.items l.at
    × ((permitted : List TypeSyntax) → (before : List TypedValue)
    → IsRemoving l.member permitted before l.fn.items.items l.fn.made
    → IsRemoving l.member permitted before l.items.items l.made)

abbrev pub decreases-equal : goal.decreases-equal
decreases-equal l = length l.items.items
