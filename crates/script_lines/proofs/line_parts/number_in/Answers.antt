-- The text of a number is ASCII.
use Rattle.std.proofs.Common.{sym, subst}
use Rattle.std.specs.Prelude.{decimal}
use Rattle.std.specs.Str.{IsUtf8}
use Rattle.std.proofs.lemmas.Fmt.{IsAscii-decimal}
use Rattle.std.proofs.lemmas.Str.{IsUtf8-from_ascii}
use Rattle.script_lines.proofs.line_parts.number_in.Goals as goal

pub returns-in-Err : goal.returns-in-Err
returns-in-Err c =
    λ number small e.
    c.in-Err.ensures.cases.0 (subst IsUtf8 (sym e) (IsUtf8-from_ascii (decimal number) (IsAscii-decimal number small)))
