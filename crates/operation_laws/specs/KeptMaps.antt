-- What whole operations leave of the map of objects: X.711, section 7; X.720, sections 5 and 6. Which maps are
-- well-formed is in WellFormedObjects of term_model.
use Rattle.std.specs.Prelude.{◌≡◌, ℕ, List, Option}
use Rattle.term_model.specs.declared.objects.NamedObject.{NamedObject}
use Rattle.term_model.specs.declared.request.Change.{Change}
use Rattle.term_model.specs.declared.request.Head.{Head}
use Rattle.term_model.specs.declared.request.IdRef.{IdRef}
use Rattle.term_model.specs.declared.schema.Set.{Set}
use Rattle.term_model.specs.WellFormedObjects.{AreGood}
use Rattle.operation_model.specs.WholeOperation.{get_outcome, set_outcome}

-- an m-Get leaves the map as it is
abbrev pub GetChangesNothing : Type 0
GetChangesNothing = (schema : Set) (objects : List NamedObject) (head : Head) (asked : Option (List IdRef)) (time : ℕ)
    → (get_outcome schema objects head asked time).objects ≡ objects

-- an m-Set on a well-formed map leaves a well-formed map
abbrev pub SetKeepsMap : Type 0
SetKeepsMap = (schema : Set) (objects : List NamedObject) (head : Head) (changes : List Change) (time : ℕ)
    → AreGood schema objects → AreGood schema (set_outcome schema objects head changes time).objects
