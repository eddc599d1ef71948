-- What is noted of types and of names is what the sentences say.
use Rattle.std.proofs.Common.{ap, sym, ◌∙◌}
use Rattle.std.proofs.Math.Path.{subst}
use Rattle.std.specs.Prelude.{AllPairs}
use Rattle.gdmo_names.specs.TargetTables.{AreTwo}
use Rattle.gdmo_targets.specs.StatedRules.{rule_terms}
use Rattle.gdmo_rules.proofs.JudgedLaws.{steps_noted}
use Rattle.gdmo_rules.proofs.judging.judge_rules.Goals as goal

pub returns-clause-noted : goal.returns-clause-noted
returns-clause-noted c = λ parts is apart are graph rules each.
    let terms = c.in_ok-rules.ensures ∙ sym rules in
    steps_noted parts
    (c.in_ok-judge_types.ensures.noted parts is are (ap rule_terms c.as_slice.ensures.value ∙ terms) each)
    (c.in_ok-note_names.ensures parts is graph (subst (AllPairs AreTwo) (sym is.are_found.all) apart)
    (ap rule_terms c.as_slice-2.ensures.value ∙ terms) each)
