-- What the components, or alternatives, so far name was added.
use Rattle.asn1_names.specs.TermViews.{module_terms}
use Rattle.asn1_numbers.specs.NamedTargets.{AddsFirst, alternative_members, component_members}
use Rattle.asn1_numbers.proofs.containment.+push_targets.Given as goal

abbrev pub invariant-loop-component : goal.invariant-loop-component
invariant-loop-component l = AddsFirst (module_terms l.tables) l.home (component_members l.component-items)
    l.component-index l.initial.targets.items l.targets.items

abbrev pub invariant-loop-alternative : goal.invariant-loop-alternative
invariant-loop-alternative l = AddsFirst (module_terms l.tables) l.home
    (alternative_members l.alternative-items) l.alternative-index l.initial.targets.items l.targets.items
