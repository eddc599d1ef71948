-- CommandLaws: words are those of one command alone.
use Rattle.std.proofs.Common.{◌≡◌, ℕ, List, [], drop, get_or, refl, sym, ap, ◌∙◌}
use Rattle.command_line.specs.WordForms.{AreWordsOf, Command}
use Rattle.command_line.specs.WordForms.Command.{Check, Report, Run, Replay, Serve, Load}
use Rattle.command_line.proofs.UnbuiltLaws.{other_word}

-- words of `run` are those of no other command, and have one script and the same documents
pub one_run : (words : List (List ℕ)) (script : List ℕ) (names : List (List ℕ)) (command : Command) →
    AreWordsOf words (Run script names) → AreWordsOf words command → command ≡ Run script names
one_run words script names (Run other others) run are =
    let same = sym are.0 ∙ run.0 in
    ap (λ s. Run s others) (ap (λ ws. get_or ws 1 []) same) ∙ ap (λ ns. Run script ns) (ap (λ ws. drop 2 ws) same)
one_run words script names (Check others) run are = absurd (other_word 0 (sym are.0 ∙ run.0) refl)
one_run words script names (Report others) run are = absurd (other_word 1 (sym are.0 ∙ run.0) refl)
one_run words script names (Replay journal others) run are = absurd (other_word 1 (sym are.0 ∙ run.0) refl)
one_run words script names (Serve address sessions workers others) run are =
    absurd (other_word 0 (sym are.0 ∙ run.0) refl)
one_run words script names (Load seed count) run are = absurd (other_word 0 (sym are.0 ∙ run.0) refl)

-- words of `check` are those of no other command, and have the same documents; and so are words of `report`
pub one_check : (words names : List (List ℕ)) (command : Command) → AreWordsOf words (Check names) →
    AreWordsOf words command → command ≡ Check names
one_check words names (Check others) check are = ap (λ ws. Check (drop 1 ws)) (sym are.0 ∙ check.0)
one_check words names (Report others) check are = absurd (other_word 0 (sym are.0 ∙ check.0) refl)
one_check words names (Run script others) check are = absurd (other_word 0 (sym are.0 ∙ check.0) refl)
one_check words names (Replay journal others) check are = absurd (other_word 0 (sym are.0 ∙ check.0) refl)
one_check words names (Serve address sessions workers others) check are =
    absurd (other_word 0 (sym are.0 ∙ check.0) refl)
one_check words names (Load seed count) check are = absurd (other_word 0 (sym are.0 ∙ check.0) refl)

pub one_report : (words names : List (List ℕ)) (command : Command) → AreWordsOf words (Report names) →
    AreWordsOf words command → command ≡ Report names
one_report words names (Report others) report are = ap (λ ws. Report (drop 1 ws)) (sym are.0 ∙ report.0)
one_report words names (Check others) report are = absurd (other_word 0 (sym are.0 ∙ report.0) refl)
one_report words names (Run script others) report are = absurd (other_word 1 (sym are.0 ∙ report.0) refl)
one_report words names (Replay journal others) report are = absurd (other_word 3 (sym are.0 ∙ report.0) refl)
one_report words names (Serve address sessions workers others) report are =
    absurd (other_word 0 (sym are.0 ∙ report.0) refl)
one_report words names (Load seed count) report are = absurd (other_word 0 (sym are.0 ∙ report.0) refl)
