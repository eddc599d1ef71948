use Rattle.gdmo_members.proofs.SameTrees.{references_alike, parameter_references_alike, attributes_alike}
use Rattle.gdmo_members.proofs.SameTrees.{parameter_templates_alike}
use Rattle.gdmo_members.proofs.FurtherSameTrees.{groups_alike, actions_alike, notifications_alike, members_alike}
use Rattle.gdmo_members.proofs.member_laws.one_tree.Goals as goal

pub returns : goal.returns
returns c = record {
  member = members_alike;
  attribute = attributes_alike;
  parameter = parameter_templates_alike;
  group = groups_alike;
  action = actions_alike;
  notification = notifications_alike;
  attribute_reference = references_alike;
  parameter_reference = parameter_references_alike;
}
