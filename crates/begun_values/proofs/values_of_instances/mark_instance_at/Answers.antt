-- The instance whose targets stand at the place.
use Rattle.gdmo_names.specs.PartViews.{instance_term}
use Rattle.gdmo_targets.specs.SectionTables.{IsInstanceTargets}
use Rattle.gdmo_types.proofs.StepLaws.{got_at}
use Rattle.begun_values.specs.SectionValues.{InstanceFirsts}
use Rattle.begun_values.proofs.GoingLaws.{goes_one}
use Rattle.begun_values.proofs.values_of_instances.mark_instance_at.Goals as goal

pub returns-in_ok-mark_instance-in-Some : goal.returns-in_ok-mark_instance-in-Some
returns-in_ok-mark_instance-in-Some c = λ parts document link.
    goes_one (IsInstanceTargets parts c.args.linkage.now.templates.now) (InstanceFirsts parts)
    (instance_term document c.args.instance.now) c.in-Some.own.now c.args.targets.now c.args.at
    (got_at c.args.targets.now c.args.at c.in-Some.own.now c.in-Some.ensures.lookup.3.0 c.in-Some.ensures.lookup.1)
    (λ is. c.in_ok-mark_instance-in-Some.ensures parts document link is)
