use Rattle.std.proofs.Common.{◌≡◌, ◌+◌, ◌++◌, length}
use Rattle.agent_model.specs.Playing.{lines_played}
use Rattle.script_playing.specs.Ready.{IsKept, IsReady}
use Rattle.script_playing.specs.Watching.{IsWatchedOn}
use Rattle.script_playing.proofs.entering.Run.play_lines.Given as goal

-- what the lines that are left come to is what all come to
abbrev pub invariant-loop-line : goal.invariant-loop-line
invariant-loop-line g l = record {
  kept : IsKept l.self.agent l.self.journal;
  ready : IsReady l.self;
  counted : l.number ≡ length l.yielded;
  all : l.yielded ++ l.line-iterator.rest.items ≡ l.fn.lines.items;
  rest : lines_played (l.number + 1) l.self l.line-iterator.rest.items ≡ lines_played 1 l.fn.self l.fn.lines.items;
  watched : IsWatchedOn l.fn.self l.fn.watch l.self l.watch;
}
