-- By the laws of each part.
use Rattle.extra_syntax.proofs.SameSections.{assignments_alike, instances_alike, rules_alike, sections_alike}
use Rattle.extra_syntax.proofs.SameSections.{steps_alike}
use Rattle.extra_syntax.proofs.section_laws.one_tree.Goals as goal

pub returns : goal.returns
returns c = record {
  section = sections_alike;
  rule = rules_alike;
  step = steps_alike;
  instance = instances_alike;
  assignment = assignments_alike;
}
