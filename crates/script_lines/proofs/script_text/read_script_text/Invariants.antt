-- The lines so far and the rest are the text.
use Rattle.std.proofs.Common.{◌≡◌, ◌++◌, length}
use Rattle.std.specs.Prelude.{flat_map}
use Rattle.std.specs.List.{All}
use Rattle.script_lines.specs.ScriptText.{IsLine, line_text}
use Rattle.script_lines.proofs.script_text.read_script_text.Given as goal

abbrev pub invariant-loop-words : goal.invariant-loop-words
invariant-loop-words l = record {
  spelt : l.text ≡ flat_map line_text l.items.items ++ l.rest;
  each : All IsLine l.items.items;
}

abbrev pub decreases-loop-words : goal.decreases-loop-words
decreases-loop-words l = length l.rest
