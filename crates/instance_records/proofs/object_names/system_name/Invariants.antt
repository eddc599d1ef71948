-- None of the instances so far is a ROOT.
use Rattle.std.proofs.Common.{◌≡◌, None, take}
use Rattle.instance_records.specs.InstanceRecords.{first_root}
use Rattle.instance_records.proofs.object_names.system_name.Given as goal

abbrev pub invariant-loop-place : goal.invariant-loop-place
invariant-loop-place l = first_root (take l.place l.parts.linked.now.instances.items) ≡ None
