-- One filter of a set more has been read.
use Rattle.std.proofs.Common.{◌≡◌, List, [], ◌∷◌, ◌++◌, Option, None, Some, refl, ap, ◌∙◌}
use Rattle.std.specs.Prelude.{option_map}
use Rattle.ber_values.specs.Left.{values_before}
use Rattle.term_values.specs.Typed.{TypedValue}
use Rattle.asn1_values_syntax.specs.declared.value.ValuePart.{ValuePart}
use Rattle.asn1_values.proofs.ComponentLaws.{value_read}
use Rattle.asn1_leaf_values.specs.Arcs.{NamedArcs}
use Rattle.asn1_values.specs.Filters.{where_unnamed, filter_said, each_said}
use Rattle.asn1_leaf_values.specs.TextValues.{said_name, said_value, parts_said}

pub each_read : (names : NamedArcs) (before : List TypedValue) (part : ValuePart) (left rest : List ValuePart) (v : TypedValue)
    → left ≡ part ∷ rest → where_unnamed (said_name part) (filter_said names (said_value part)) ≡ Some v
    → option_map (values_before before) (each_said names (parts_said left))
    ≡ option_map (values_before (before ++ v ∷ [])) (each_said names (parts_said rest))
each_read names before part left rest v e is = rw (e, is) (value_read before v (each_said names (parts_said rest)))

pub each_missing : (names : NamedArcs) (before : List TypedValue) (part : ValuePart) (left rest : List ValuePart)
    → left ≡ part ∷ rest → where_unnamed (said_name part) (filter_said names (said_value part)) ≡ None
    → option_map (values_before before) (each_said names (parts_said left)) ≡ None
each_missing names before part left rest e is = rw (e, is) refl
