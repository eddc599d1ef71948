-- What the set has is among the encodings, and the members are those so far and those that are new among the rest.
use Rattle.std.proofs.Common.{◌≡◌, ℕ, List, drop}
use Rattle.ber_values.specs.Left.{values_before}
use Rattle.term_values.specs.Typed.{listed}
use Rattle.term_values.specs.ValueContents.{member_encodings}
use Rattle.term_values.specs.Written.{der}
use Rattle.set_values.specs.EncodingSets.{HasExactly}
use Rattle.term_values.specs.SetMembers.{followed_by, new_members}
use Rattle.set_values.proofs.members.added.Given as goal

abbrev pub invariant-loop-value : goal.invariant-loop-value
invariant-loop-value l =
    (seen : List (List ℕ)) × HasExactly l.there seen
    × (followed_by l.held (new_members (der l.member) (member_encodings (der l.member) l.held) (listed l.value-items))
    ≡ values_before l.items.items (new_members (der l.member) seen (listed (drop l.value-index l.value-items))))
