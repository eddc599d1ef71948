use Rattle.std.proofs.Common.{◌≡◌, ◌++◌, take}
use Rattle.agent_model.specs.Texts.{out_lines}
use Rattle.journal_text.proofs.texts.write_out_lines.Given as goal

-- the lines of the associations so far were appended
abbrev pub invariant-loop-place : goal.invariant-loop-place
invariant-loop-place l = l.into.items ≡ l.fn.into.items ++ out_lines 1 (take l.place l.fn.associations)
