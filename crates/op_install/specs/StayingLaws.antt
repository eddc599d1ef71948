-- What holds of the objects before and behind a request: X.711, section 7; X.720, sections 5 and 6. Which maps are
-- well-formed is in WellFormedObjects of term_model.
use Rattle.std.specs.Prelude.{◌≡◌, ℕ, List, Some}
use Rattle.term_model.specs.declared.objects.NamedObject.{NamedObject}
use Rattle.term_model.specs.declared.request.Request.{Request}
use Rattle.term_model.specs.declared.schema.Set.{Set}
use Rattle.term_model.specs.WellFormedObjects.{AreGood}
use Rattle.operation_model.specs.OperationConditions.{AreSmall}
use Rattle.operation_model.specs.WholeOperation.{Outcome, outcome}

-- a well-formed map stays one
abbrev pub OutcomesStayGood : Type 0
OutcomesStayGood = (schema : Set) (objects : List NamedObject) (request : Request) (moment : ℕ) (told : Outcome)
    → AreGood schema objects → outcome schema objects request moment ≡ Some told → AreGood schema told.objects

-- objects of at most 16,384 octets have no more afterwards
abbrev pub OutcomesStaySmall : Type 0
OutcomesStaySmall = (schema : Set) (objects : List NamedObject) (request : Request) (moment : ℕ) (told : Outcome)
    → AreSmall schema objects → outcome schema objects request moment ≡ Some told → AreSmall schema told.objects

-- the objects of a well-formed map have no more
abbrev pub GoodAreSmall : Type 0
GoodAreSmall = (schema : Set) (objects : List NamedObject) → AreGood schema objects → AreSmall schema objects
