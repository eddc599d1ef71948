use Rattle.std.proofs.Common.{rules}
use Rattle.std.specs.Prelude.{string_bytes}
use Rattle.command_line.specs.WordForms.{HasSharesAndNames, IsPlace}
use Rattle.command_line.proofs.FormLaws.{told_by_rest}
use Rattle.command_line.proofs.forms.are_serve_words.Goals as goal

pub returns-then-is_place : goal.returns-then-is_place
returns-then-is_place c = told_by_rest string_bytes (IsPlace) (HasSharesAndNames) c.args.words.now c.in-Some.rest.now
    c.in-Some.address.now c.are_shares_and_names.result (search rules) (search rules) c.are_shares_and_names.ensures
