use Rattle.hall_model.proofs.JournalSound.{committed_request_keeps}
use Rattle.hall_model.proofs.laws.committed_requests_keep.Goals as goal

pub returns : goal.returns
returns c = committed_request_keeps
