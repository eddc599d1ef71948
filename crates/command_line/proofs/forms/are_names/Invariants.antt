use Rattle.std.proofs.Common.{map, take}
use Rattle.std.specs.Prelude.{string_bytes}
use Rattle.std.specs.List.{All}
use Rattle.command_line.specs.WordForms.{IsPlace}
use Rattle.command_line.proofs.forms.are_names.Given as goal

abbrev pub invariant-loop-word : goal.invariant-loop-word
invariant-loop-word l = All IsPlace (map string_bytes (take l.word-index l.words))
