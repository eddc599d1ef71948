-- What an APDU of an association brings: X.229, section 9; X.711, section 7.
use Rattle.std.specs.Prelude.{ℕ, ℤ, Option}
use Rattle.term_model.specs.declared.request.Invocation.{Invocation}

pub data Arriving : Type 0 where
  -- it is rejected: the invoke id where it could be read, the kind of the problem, and the problem
  Rejected : Option ℤ → ℕ → ℤ → Arriving
  -- a cancel-get with its invoke id, and the invoke id that it cancels
  Cancels : ℤ → ℤ → Arriving
  -- it has no effect
  NoEffect : Arriving
  -- a request, which is queued
  Queued : Invocation → Arriving
