use Rattle.cmip_replies.proofs.ReadBack.{empty_back, error_back, event_back, linked_back, long_error_back, reject_back}
use Rattle.cmip_replies.proofs.ReadBack.{single_back}
use Rattle.cmip_replies.proofs.laws.sent_is_read_back.Goals as goal

pub returns-clause-single : goal.returns-clause-single
returns-clause-single c =
    single_back c.written_is_read_back.ensures.apdu c.written_is_read_back.ensures.read_back
    c.written_is_read_back-2.ensures.again

pub returns-clause-linked : goal.returns-clause-linked
returns-clause-linked c =
    linked_back c.written_is_read_back.ensures.apdu c.written_is_read_back.ensures.read_back
    c.written_is_read_back-2.ensures.again

pub returns-clause-empty : goal.returns-clause-empty
returns-clause-empty c =
    empty_back c.written_is_read_back.ensures.apdu c.written_is_read_back.ensures.read_back

pub returns-clause-error : goal.returns-clause-error
returns-clause-error c =
    error_back c.written_is_read_back.ensures.apdu c.written_is_read_back.ensures.read_back
    c.written_is_read_back-2.ensures.again

pub returns-clause-long_error : goal.returns-clause-long_error
returns-clause-long_error c =
    long_error_back c.written_is_read_back.ensures.apdu c.written_is_read_back.ensures.read_back

pub returns-clause-event : goal.returns-clause-event
returns-clause-event c =
    event_back c.written_is_read_back.ensures.apdu c.written_is_read_back.ensures.read_back
    c.written_is_read_back-2.ensures.again

pub returns-clause-reject : goal.returns-clause-reject
returns-clause-reject c =
    reject_back c.written_is_read_back.ensures.apdu c.written_is_read_back.ensures.read_back
