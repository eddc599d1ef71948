-- The parts of a value that are held in it say what the list of them says.
use Rattle.std.proofs.Common.{◌≡◌, ℕ, true, false, List, [], ◌∷◌, length, get_or, None, refl, ◌∙◌, ap, sym, arith}
use Rattle.std.specs.Prelude.{◌≢◌}
use Rattle.std.specs.declared.alloc.Global.{Global}
use Rattle.std.specs.declared.vec.Vec.{Vec}
use Rattle.asn1_values_syntax.specs.declared.value.ValuePart.{ValuePart}
use Rattle.asn1_values_syntax.specs.declared.value.BracesText.{Row_of-ValuePart, end_of-ValuePart, more_of-ValuePart}
use Rattle.asn1_values_syntax.specs.declared.value.BracesText.{items-the_row-ValuePart}
use Rattle.asn1_values_syntax.specs.declared.value.BracesText.{items_hidden-the_row-ValuePart-0}
use Rattle.asn1_values_syntax.specs.declared.value.BracesText.TheBlock.{hidden-the_row-ValuePart-0}
use Rattle.asn1_values_syntax.specs.declared.value.BracesText.TheVariants.{Parts}
use Rattle.asn1_leaf_values.specs.Arcs.{NamedArcs, arcs_said}
use Rattle.asn1_leaf_values.specs.TextValues.{TextValue, TextParts, said_name, said_value, content_said, row_said}
use Rattle.asn1_leaf_values.specs.TextValues.{parts_said}
use Rattle.asn1_leaf_values.specs.TextValues.TextValue.{InBraces}
use Rattle.asn1_leaf_values.specs.TextValues.TextParts.{NoTexts, AndText}

row-list : {n : _} (row : Row_of-ValuePart n) → row_said row ≡ parts_said (items-the_row-ValuePart n row)
row-list end_of-ValuePart = refl
row-list (more_of-ValuePart part others) =
    ap (λ rest. AndText (said_name part) (said_value part) rest) (row-list others)

pub parts_content : (parts : Vec ValuePart Global) → content_said (Parts parts) ≡ InBraces (parts_said parts.items)
parts_content parts = ap InBraces (row-list (hidden-the_row-ValuePart-0 parts)
    ∙ ap parts_said (items_hidden-the_row-ValuePart-0 parts))

-- a list that isn't of one part says no arcs
pub no_arcs : (names : NamedArcs) (parts : List ValuePart) → length parts ≢ 1
    → arcs_said names (InBraces (parts_said parts)) ≡ None
no_arcs names [] h = refl
no_arcs names (x ∷ []) h = absurd (h refl)
no_arcs names (x ∷ (y ∷ ys)) h = refl

pub one_part : (parts : List ValuePart) (x : ValuePart) → length parts ≡ 1 → x ≡ get_or parts 0 x
    → parts_said parts ≡ AndText (said_name x) (said_value x) NoTexts
one_part [] x h e = absurd (omega arith)
one_part (y ∷ []) x h e = ap (λ (z : ValuePart). AndText (said_name z) (said_value z) NoTexts) (sym e)
one_part (y ∷ (z ∷ zs)) x h e = absurd (omega arith)
