use Rattle.std.proofs.Common.{rules}
use Rattle.std.specs.Prelude.{string_bytes}
use Rattle.command_line.specs.WordForms.{HasWorkersAndNames, IsNumberIn}
use Rattle.command_line.proofs.FormLaws.{told_by_rest}
use Rattle.command_line.proofs.forms.are_shares_and_names.Goals as goal

pub returns-then-is_number_in : goal.returns-then-is_number_in
returns-then-is_number_in c = told_by_rest string_bytes (IsNumberIn 1 10000) (HasWorkersAndNames) c.args.words.now c.in-Some.rest.now
    c.in-Some.sessions.now c.are_workers_and_names.result (search rules) (search rules) c.are_workers_and_names.ensures
