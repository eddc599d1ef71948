use Rattle.request_laws.proofs.OperationTold.{operation_is_denoted}
use Rattle.request_laws.proofs.ReportTold.{report_is_denoted}
use Rattle.request_laws.proofs.ChangesTold.{action_is_denoted, set_is_denoted}
use Rattle.request_laws.proofs.CreateTold.{create_is_denoted}
use Rattle.request_laws.proofs.ScopedTold.{delete_is_denoted, get_is_denoted}
use Rattle.request_laws.proofs.laws.request_is_denoted.Goals as goal

pub returns-clause-get : goal.returns-clause-get
returns-clause-get c = get_is_denoted

pub returns-clause-delete : goal.returns-clause-delete
returns-clause-delete c = delete_is_denoted

pub returns-clause-set : goal.returns-clause-set
returns-clause-set c = set_is_denoted

pub returns-clause-action : goal.returns-clause-action
returns-clause-action c = action_is_denoted

pub returns-clause-report : goal.returns-clause-report
returns-clause-report c = report_is_denoted

pub returns-clause-create : goal.returns-clause-create
returns-clause-create c = create_is_denoted

pub returns-clause-operation : goal.returns-clause-operation
returns-clause-operation c = operation_is_denoted
