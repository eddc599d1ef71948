-- What an APDU brings depends on the answers of the test for invoke ids in use alone.
use Rattle.std.specs.Prelude.{◌≡◌, ℕ, ℤ, List, Bool}
use Rattle.term_model.specs.declared.schema.Set.{Set}
use Rattle.agent_model.specs.Receiving.{received_where}

pub same_where : (schema : Set) (test other : ℤ → Bool) (apdu : List ℕ) → ((id : ℤ) → test id ≡ other id)
    → received_where schema test apdu ≡ received_where schema other apdu
same_where schema test other apdu same = λ i. received_where schema (λ id. same id i) apdu
