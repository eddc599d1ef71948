use Rattle.std.proofs.Common.{rules}
use Rattle.std.specs.Prelude.{string_bytes}
use Rattle.command_line.specs.WordForms.{HasCount, IsNumberIn}
use Rattle.command_line.proofs.FormLaws.{told_by_rest}
use Rattle.command_line.proofs.forms.are_load_words.Goals as goal

pub returns-then-is_number_in : goal.returns-then-is_number_in
returns-then-is_number_in c = told_by_rest string_bytes (IsNumberIn 0 18446744073709551615) (HasCount) c.args.words.now c.in-Some.rest.now
    c.in-Some.seed.now c.are_count.result (search rules) (search rules) c.are_count.ensures
