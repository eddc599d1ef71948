-- `write_all`: what was written so far is the part from the front up to `done`, without a fault.
use Rattle.std.proofs.Common.{◌≡◌, ◌-◌, ◌≤◌, length, take}
use Rattle.agent_bytes.specs.Told.{gained}
use Rattle.agent_bytes.proofs.writing.write_all.Given as goal

abbrev pub invariant-loop-done : goal.invariant-loop-done
invariant-loop-done g l =
    (l.done ≤ length l.bytes)
    × (g.S.Sink.contents l.sink ≡ gained (g.S.Sink.contents l.initial.sink) (take l.done l.bytes))
    × (g.S.Sink.faults l.sink ≡ g.S.Sink.faults l.initial.sink)

abbrev pub decreases-loop-done : goal.decreases-loop-done
decreases-loop-done g l = length l.bytes - l.done
