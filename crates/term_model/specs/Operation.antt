-- The numbers of operations and of two errors, and the frames of an operation's replies, with the agent's own invoke ids:
-- X.711, section 7.
use Rattle.std.specs.Prelude.{ℕ, ℤ, pos, negsuc, List, [], ◌∷◌, ◌++◌, ◌+◌, nat_lt, if◌then◌else◌}
use Rattle.term_model.specs.declared.reply.Reply.{Reply}
use Rattle.term_model.specs.declared.reply.Reply.TheVariants as reply
use Rattle.term_model.specs.declared.request.Request.{Request}
use Rattle.term_model.specs.declared.request.Request.TheVariants as request
use Rattle.term_model.specs.declared.schema.Set.{Set}
use Rattle.term_model.specs.GetRequest.{m_get}
use Rattle.term_model.specs.SentApdus.{sent_reply}

-- the number of the error noSuchObjectInstance
abbrev pub no_such_object : ℤ
no_such_object = pos 1

-- the number of the error invalidObjectInstance
abbrev pub invalid_object : ℤ
invalid_object = pos 17

-- the number of the operation: X.711, section 7
abbrev pub operation_number : Request → ℤ
operation_number (request.Get head ids) = m_get
operation_number (request.Set head changes confirmed) = if confirmed then pos 5 else pos 4
operation_number (request.Act head action argument confirmed) = if confirmed then pos 7 else pos 6
operation_number (request.Create class place reference given) = pos 8
operation_number (request.Delete head) = pos 9
operation_number (request.Report class at kind time info confirmed) = if confirmed then pos 1 else pos 0

-- the greatest of the agent's own invoke ids, and the one that follows an own invoke id: they count from 1 and begin
-- anew behind the greatest one
abbrev pub last_own : ℕ
last_own = 2147483647

abbrev pub own_after : ℤ → ℤ
own_after (pos own) = if nat_lt own last_own then pos (own + 1) else pos 1
own_after (negsuc n) = pos 1

-- the next own invoke id behind a reply: a linked reply takes one
abbrev pub own_behind : ℤ → Reply → ℤ
own_behind own (reply.Linked number contents) = own_after own
own_behind own _ = own

-- the frames of replies to an invoke, in their order, and the next own invoke id behind them
pub record Replied : Type 0 where
  pub octets : List ℕ
  pub own : ℤ

abbrev pub replied : ℤ → ℤ → ℤ → List Reply → Replied
replied invoke operation own [] = record { octets = []; own = own }
replied invoke operation own (first ∷ others) =
    let behind = replied invoke operation (own_behind own first) others in
    record { octets = sent_reply invoke operation own first ++ behind.octets; own = behind.own }
