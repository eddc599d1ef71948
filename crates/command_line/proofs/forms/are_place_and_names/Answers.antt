use Rattle.std.proofs.Common.{rules}
use Rattle.std.specs.Prelude.{string_bytes}
use Rattle.command_line.specs.WordForms.{AreNames, IsPlace}
use Rattle.command_line.proofs.FormLaws.{told_by_rest}
use Rattle.command_line.proofs.forms.are_place_and_names.Goals as goal

pub returns-then-is_place : goal.returns-then-is_place
returns-then-is_place c = told_by_rest string_bytes (IsPlace) (AreNames) c.args.words.now c.in-Some.names.now
    c.in-Some.first.now c.are_names.result (search rules) (search rules) c.are_names.ensures
