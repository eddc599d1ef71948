-- None of the properties so far is of such an attribute.
use Rattle.std.proofs.Common.{◌≡◌, take, false}
use Rattle.std.specs.List.{list_any}
use Rattle.term_model.specs.BoundClasses.{is_attribute}
use Rattle.term_model.specs.declared.packages.Property.{Property}
use Rattle.attribute_rules.proofs.bound_logs.is_listed.Given as goal

abbrev pub invariant-loop-property : goal.invariant-loop-property
invariant-loop-property l =
    list_any (λ (property : Property). is_attribute l.records (l.label, l.syntax) property.attribute)
    (take l.property-index l.properties)
    ≡ false
