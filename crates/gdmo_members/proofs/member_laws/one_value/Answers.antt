-- By the laws of each template.
use Rattle.gdmo_members.proofs.Values.{one_behaviour, one_behaviour_reference}
use Rattle.gdmo_members.proofs.MemberValues.{references_agree, parameter_references_agree, one_attribute, one_parameter}
use Rattle.gdmo_members.proofs.FurtherValues.{one_group, one_action, one_notification, one_member}
use Rattle.gdmo_members.proofs.member_laws.one_value.Goals as goal

pub returns : goal.returns
returns c = record {
  member = one_member;
  behaviour = one_behaviour;
  attribute = one_attribute;
  parameter = one_parameter;
  group = one_group;
  action = one_action;
  notification = one_notification;
  behaviour_reference = one_behaviour_reference;
  attribute_reference = references_agree;
  parameter_reference = parameter_references_agree;
}
