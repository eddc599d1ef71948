use Rattle.std.proofs.Common.{◌≡◌, ◌<◌, ℕ, true, false, get_or}
use Rattle.asn1_values_syntax.specs.declared.value.ValuePart.{ValuePart}
use Rattle.asn1_leaf_values.specs.Literals.{same_name}
use Rattle.asn1_leaf_values.specs.TextValues.{said_name}
use Rattle.asn1_values.proofs.denoting.find_text.Given as goal

abbrev pub invariant-loop-k : goal.invariant-loop-k
invariant-loop-k l =
    (j : ℕ) (d : ValuePart) → j < l.k → get_or l.taken j true ≡ false
    → same_name l.name (said_name (get_or l.texts j d)) ≡ false
