-- None of the classes so far is it.
use Rattle.std.proofs.Common.{◌≡◌, take, false}
use Rattle.std.specs.Prelude.{◌&&◌, codes}
use Rattle.std.specs.List.{list_any}
use Rattle.term_model.specs.declared.schema.ClassRec.{ClassRec}
use Rattle.term_model.specs.BoundClasses.{is_bound_as}
use Rattle.term_model.specs.Comparing.{is_same_octets}
use Rattle.term_model.specs.ControlSyntaxes.{discriminator_attributes}
use Rattle.bound_classes.proofs.bound_labels.has_bound_discriminator.Given as goal

abbrev pub invariant-loop-of_class : goal.invariant-loop-of_class
invariant-loop-of_class l =
    list_any
    (λ (of_class : ClassRec). is_same_octets of_class.label (codes "eventForwardingDiscriminator")
    && is_bound_as l.schema (codes "eventForwardingDiscriminator") discriminator_attributes of_class.id)
    (take l.of_class-index l.of_class-items)
    ≡ false
