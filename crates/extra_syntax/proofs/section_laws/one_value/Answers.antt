-- By the laws of each part.
use Rattle.extra_syntax.proofs.OneSection.{assignments_agree, instances_agree, rules_agree, sections_agree, steps_agree}
use Rattle.extra_syntax.proofs.section_laws.one_value.Goals as goal

pub returns : goal.returns
returns c = record {
  section = sections_agree;
  rule = rules_agree;
  step = steps_agree;
  instance = instances_agree;
  assignment = assignments_agree;
}
