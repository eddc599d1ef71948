-- An encoding is in the set, or is that of a member that is left, exactly where it is that of a member.
use Rattle.std.proofs.Common.{◌≡◌, ◌||◌, ℕ, List, drop}
use Rattle.term_values.specs.Typed.{listed}
use Rattle.term_values.specs.ValueContents.{member_encodings}
use Rattle.term_values.specs.Written.{der}
use Rattle.set_values.specs.EncodingSets.{holds}
use Rattle.term_values.specs.SetMembers.{is_among}
use Rattle.set_values.proofs.encodings.encodings_of.Given as goal

abbrev pub invariant-loop-value : goal.invariant-loop-value
invariant-loop-value l =
    (q : List ℕ)
    → (holds l.set q || is_among q (member_encodings (der l.member) (listed (drop l.value-index l.value-items))))
    ≡ is_among q (member_encodings (der l.member) (listed l.value-items))
