use Rattle.request_laws.proofs.Cancels.{cancel_is_denoted, no_cancel_is_denoted}
use Rattle.request_laws.proofs.Requests.{no_request_is_denoted, request_is_denoted}
use Rattle.request_laws.proofs.laws.reading_is_denoting.Goals as goal

pub returns-clause-none : goal.returns-clause-none
returns-clause-none c = no_request_is_denoted

pub returns-clause-denotes : goal.returns-clause-denotes
returns-clause-denotes c = request_is_denoted

pub returns-clause-cancel : goal.returns-clause-cancel
returns-clause-cancel c = cancel_is_denoted

pub returns-clause-no_cancel : goal.returns-clause-no_cancel
returns-clause-no_cancel c = no_cancel_is_denoted
