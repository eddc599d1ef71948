-- Once more, and the last time.
use Rattle.joined_properties.specs.JoiningSteps.ArePasses.{begin, onward}
use Rattle.joined_properties.proofs.PutLaws.{last_pass}
use Rattle.joined_properties.proofs.inheriting.Inheriting.join_again.Goals as goal

pub loop-init : goal.loop-init
loop-init c = begin

pub loop-preserved : goal.loop-preserved
loop-preserved c = onward c.in_ok-changed.changed c.loop.invariant c.in_ok-changed.ensures

pub returns-then-not-changed : goal.returns-then-not-changed
returns-then-not-changed c = last_pass c.loop.invariant c.if-not-changed.true c.in_ok-changed.ensures
