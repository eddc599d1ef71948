-- What each operation that holds a path has to do with its unit. docs/PROFILE.md, section 20.
use Rattle.std.specs.Prelude.{◌≡◌, ◌<◌, ℕ, List, Bool, false, Option, None, length}
use Rattle.term_model.specs.declared.name.Rdn.{Rdn}
use Rattle.term_model.specs.declared.objects.NamedObject.{NamedObject}
use Rattle.term_model.specs.declared.request.Change.{Change}
use Rattle.term_model.specs.declared.request.Head.{Head}
use Rattle.term_model.specs.declared.request.IdRef.{IdRef}
use Rattle.term_model.specs.declared.request.Request.{Request}
use Rattle.term_model.specs.declared.request.Request.TheVariants as request
use Rattle.term_model.specs.declared.schema.Set.{Set}
use Rattle.term_model.specs.NamedObjects.{IsByName, object_at}
use Rattle.term_model.specs.WellFormedObjects.{AreGood}
use Rattle.operation_model.specs.WholeOperation.{AreChanges, Changed, Outcome, get_outcome, set_outcome}
use Rattle.lock_model.specs.declared.lock_name.Part.TheVariants as extents
use Rattle.lock_model.specs.declared.path.Wanted.{Wanted}
use Rattle.lock_model.specs.LockPath.{is_inside}
use Rattle.lock_model.specs.Units.{IsPlain, append_unit, request_unit, taken_on}
use Rattle.lock_model.specs.ReadSet.{class_at, inside, read_set}

-- names have at most 32 parts
abbrev pub AreShort : List NamedObject → Type 0
AreShort objects = (name : List Rdn) → 32 < length name → object_at objects name ≡ None

-- nothing is changed outside the unit; the object that is a unit alone keeps its class, and is there as before; what
-- only reads changes nothing
pub record Framed (wanted : Wanted) (before after : List NamedObject) : Type 0 where
  pub rises : IsByName after
  pub outside : (name : List Rdn) → is_inside wanted.unit name ≡ false → object_at after name ≡ object_at before name
  pub own : wanted.unit.part ≡ extents.Own → class_at after wanted.unit.name ≡ class_at before wanted.unit.name
  pub reading : wanted.writing ≡ false → after ≡ before

-- the same replies and event sources, and the same objects in the unit
pub record AlikeOutcomes (wanted : Wanted) (o u : Outcome) : Type 0 where
  pub replies : o.replies ≡ u.replies
  pub sources : o.sources ≡ u.sources
  pub inside : inside wanted.unit o.objects ≡ inside wanted.unit u.objects

-- what an operation does on each map keeps to the unit that it takes there: it changes nothing else, and its read set
-- tells all of it
pub record KeepsToUnit (schema : Set) (whole : Wanted) (does : List NamedObject → Outcome) : Type 0 where
  pub plain : IsPlain schema whole
  pub frame : (objects : List NamedObject) → IsByName objects → AreShort objects
      → Framed (taken_on schema objects whole) objects (does objects).objects
  pub told : (one other : List NamedObject) → IsByName one → IsByName other → AreShort one → AreShort other
      → read_set schema (taken_on schema one whole).unit one ≡ read_set schema (taken_on schema one whole).unit other
      → AlikeOutcomes (taken_on schema one whole) (does one) (does other)

abbrev pub GetKeepsToUnit : Type 0
GetKeepsToUnit = (schema : Set) (head : Head) (ids : Option (List IdRef)) (time : ℕ)
    → KeepsToUnit schema (request_unit schema (request.Get head ids))
    (λ objects. get_outcome schema objects head ids time)

abbrev pub SetKeepsToUnit : Type 0
SetKeepsToUnit = (schema : Set) (head : Head) (changes : List Change) (confirmed : Bool) (time : ℕ)
    → KeepsToUnit schema (request_unit schema (request.Set head changes confirmed))
    (λ objects. set_outcome schema objects head changes time)

-- the units of all requests and of appends are plain
abbrev pub UnitsArePlain : Type 0
UnitsArePlain = (schema : Set) → ((asked : Request) → IsPlain schema (request_unit schema asked))
    × ((log : List Rdn) → IsPlain schema (append_unit schema log))

-- on maps with the same read set an operation takes the same unit
abbrev pub PathStays : Type 0
PathStays = (schema : Set) (one other : List NamedObject) (whole : Wanted) → IsByName one → IsByName other
    → read_set schema (taken_on schema one whole).unit one ≡ read_set schema (taken_on schema one whole).unit other
    → taken_on schema other whole ≡ taken_on schema one whole

-- and the changes that were planned on one map are those that it makes on the other
abbrev pub PlanStays : Type 0
PlanStays = (schema : Set) (one other : List NamedObject) (whole : Wanted) (does : List NamedObject → Outcome)
    (changes : Changed) → KeepsToUnit schema whole does
    → IsByName one → IsByName other → AreShort one → AreShort other
    → read_set schema (taken_on schema one whole).unit one ≡ read_set schema (taken_on schema one whole).unit other
    → AreChanges one (does one).objects changes → AreChanges other (does other).objects changes

-- names of well-formed maps are short
abbrev pub GoodIsShort : Type 0
GoodIsShort = (schema : Set) (objects : List NamedObject) → AreGood schema objects → AreShort objects
