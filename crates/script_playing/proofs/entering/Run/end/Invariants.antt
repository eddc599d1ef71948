use Rattle.std.proofs.Common.{◌≡◌, ◌+◌, ◌-◌, length}
use Rattle.agent_model.specs.Playing.{closed_from, ended}
use Rattle.script_playing.specs.Ready.{IsKept, IsReady}
use Rattle.script_playing.specs.Watching.{IsWatchedOn}
use Rattle.script_playing.proofs.entering.Run.end.Given as goal

-- what is left to be closed leads to the end
abbrev pub invariant-loop-before : goal.invariant-loop-before
invariant-loop-before g l = record {
  kept : IsKept l.self.agent l.self.journal;
  ready : IsReady l.self;
  all : l.count ≡ length l.self.agent.associations;
  rest : closed_from (l.count - l.before) (l.before + 1) l.self ≡ ended l.fn.self;
  watched : IsWatchedOn l.fn.self l.fn.watch l.self l.watch;
}
