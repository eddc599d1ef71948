-- A template in line.
use Rattle.gdmo_names.proofs.FindingLaws.{target_in_line}
use Rattle.gdmo_names.proofs.finding_members.group_target.Goals as goal

pub returns-in_ok-find_group-in-Template : goal.returns-in_ok-find_group-in-Template
returns-in_ok-find_group-in-Template c =
    rw c.in-Template.is (target_in_line c.in_ok-find_group-in-Template.ensures)
