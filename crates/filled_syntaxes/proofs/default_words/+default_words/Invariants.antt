-- None of the components, or alternatives, so far has a DEFAULT.
use Rattle.std.proofs.Common.{◌≡◌, drop, map}
use Rattle.asn1_types.specs.BuiltSyntaxes.{alternative_member, component_member}
use Rattle.asn1_types.specs.MeasuredTypes.{members_listed}
use Rattle.filled_syntaxes.specs.WrittenDefaults.{members_write}
use Rattle.filled_syntaxes.proofs.default_words.+default_words.Given as goal

abbrev pub invariant-components_have_default-loop-component : goal.invariant-components_have_default-loop-component
invariant-components_have_default-loop-component l = members_write (members_listed (map component_member l.components))
    ≡ members_write (members_listed (map component_member (drop l.component-index l.components)))

abbrev pub invariant-alternatives_have_default-loop-alternative :
    goal.invariant-alternatives_have_default-loop-alternative
invariant-alternatives_have_default-loop-alternative l =
    members_write (members_listed (map alternative_member l.alternatives))
    ≡ members_write (members_listed (map alternative_member (drop l.alternative-index l.alternatives)))
