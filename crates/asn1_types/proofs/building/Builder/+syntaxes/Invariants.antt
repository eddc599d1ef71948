use Rattle.std.proofs.Common.{◌*◌, ◌+◌, map, take}
use Rattle.term_values.specs.PartsView.{parts_listed}
use Rattle.asn1_names.specs.DenotedSyntax.{MembersDenote}
use Rattle.asn1_names.specs.TermViews.{module_terms}
use Rattle.asn1_types.specs.BuiltSyntaxes.{alternative_member, component_member}
use Rattle.asn1_types.specs.MeasuredTypes.{AreMeasured, members_listed}
use Rattle.asn1_types.proofs.building.Builder.+syntaxes.Given as goal

-- how deep it may go, and for one depth the order in which the functions call one another
abbrev pub decreases-syntax_within : goal.decreases-syntax_within
decreases-syntax_within l = 4 * l.depth

abbrev pub decreases-unnamed : goal.decreases-unnamed
decreases-unnamed l = 4 * l.depth + 3

abbrev pub decreases-structure : goal.decreases-structure
decreases-structure l = 4 * l.depth + 2

abbrev pub decreases-components : goal.decreases-components
decreases-components l = 4 * l.depth + 1

abbrev pub decreases-alternatives : goal.decreases-alternatives
decreases-alternatives l = 4 * l.depth + 1

-- the parts so far, of the members so far
abbrev pub invariant-components-loop-component : goal.invariant-components-loop-component
invariant-components-loop-component l =
    AreMeasured (module_terms l.self.numbers.now) l.home (map component_member l.components) l.depth →
    MembersDenote (module_terms l.self.numbers.now) l.home
    (members_listed (map component_member (take l.component-index l.components))) (parts_listed l.items.items)

abbrev pub invariant-alternatives-loop-alternative : goal.invariant-alternatives-loop-alternative
invariant-alternatives-loop-alternative l =
    AreMeasured (module_terms l.self.numbers.now) l.home (map alternative_member l.alternatives) l.depth →
    MembersDenote (module_terms l.self.numbers.now) l.home
    (members_listed (map alternative_member (take l.alternative-index l.alternatives))) (parts_listed l.items.items)
