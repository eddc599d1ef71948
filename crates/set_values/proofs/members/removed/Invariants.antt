use Rattle.std.proofs.Common.{◌≡◌, drop}
use Rattle.ber_values.specs.Left.{values_before}
use Rattle.term_values.specs.Typed.{listed}
use Rattle.term_values.specs.ValueContents.{member_encodings}
use Rattle.term_values.specs.Written.{der}
use Rattle.term_values.specs.SetMembers.{other_members}
use Rattle.set_values.proofs.members.removed.Given as goal

abbrev pub invariant-loop-value : goal.invariant-loop-value
invariant-loop-value l =
    other_members (der l.member) (member_encodings (der l.member) l.given) (listed l.value-items)
    ≡ values_before l.items.items
    (other_members (der l.member) (member_encodings (der l.member) l.given) (listed (drop l.value-index l.value-items)))
