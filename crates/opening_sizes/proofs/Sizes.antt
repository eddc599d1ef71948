-- An object at the opening is of that size, as opening_laws has it.
use Rattle.std.proofs.Common.{◌≤◌}
use Rattle.std.proofs.lemmas.List.Elements.{All-weaker}
use Rattle.term_model.specs.declared.objects.NamedObject.{NamedObject}
use Rattle.term_model.specs.BoundClasses.{object_size}
use Rattle.opening_laws.specs.OpeningLaws.{IsOpenedObject}
use Rattle.opening_laws.proofs.Objects.{opened_objects}
use Rattle.opening_sizes.specs.OpeningSizes.{OpenedAreSmall}

pub opened_are_small : OpenedAreSmall
opened_are_small schema objects is =
    All-weaker (λ (entry : NamedObject). IsOpenedObject schema entry.object)
    (λ (entry : NamedObject). object_size schema entry.object ≤ 16384) (λ entry one. one.small) objects
    (opened_objects schema objects is)
