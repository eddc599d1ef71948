use Rattle.std.proofs.Common.{rules, ◌≡◌, []}
use Rattle.std.specs.Prelude.{string_bytes}
use Rattle.command_line.specs.WordForms.{IsNumberIn}
use Rattle.command_line.proofs.FormLaws.{none_as_well, told_by_rest}
use Rattle.command_line.proofs.forms.are_count.Goals as goal

pub returns-then-is_number_in : goal.returns-then-is_number_in
returns-then-is_number_in c = told_by_rest string_bytes (IsNumberIn 1 100000) (λ rest. rest ≡ []) c.args.words.now c.in-Some.rest.now
    c.in-Some.count.now c.is_empty.result (search rules) (search rules)
    (none_as_well string_bytes c.in-Some.rest.now c.is_empty.result c.is_empty.ensures)
