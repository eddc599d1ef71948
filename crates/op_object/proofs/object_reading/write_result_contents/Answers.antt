-- The parts in a row, the last one first.
use Rattle.term_model.specs.GetRequest.{class_octets, instance_octets}
use Rattle.term_model.specs.ObjectOperation.{time_octets}
use Rattle.ber_tree.proofs.Backwards.{before}
use Rattle.op_object.proofs.object_reading.write_result_contents.Goals as goal

pub returns-clause-written : goal.returns-clause-written
returns-clause-written c =
    before c.args.into.now.items (class_octets c.args.object.now.class) _ c.in_ok-write_oid_backwards.ensures.written
    (before c.args.into.now.items (instance_octets c.args.name.now) _ c.in_ok-write_instance.ensures.written
    (before c.args.into.now.items (time_octets c.args.time.now) _ c.in_ok-write_value_backwards.ensures.written
    c.in_ok-write_attributes.ensures.written))
