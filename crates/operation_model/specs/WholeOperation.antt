-- What an operation leaves, answers and reports, whose objects a scope and a filter select: X.711, section 7.5;
-- docs/PROFILE.md, section 17. That is said of m-Get and m-Set, and not yet of other operations.
use Rattle.std.specs.Prelude.{◌≡◌, ◌≢◌, ℕ, pos, List, [], ◌∷◌, ◌++◌, Bool, true, false, Option, None, Some}
use Rattle.std.specs.Prelude.{Result, Ok, Err, Contains, length, map, min, nat_le, if◌then◌else◌}
use Rattle.std.specs.List.Sorted.{IsStrictlySortedBy}
use Rattle.std.specs.Option.{option_map_or}
use Rattle.std.specs.Ordering.{int_eq}
use Rattle.term_values.specs.Moment.{moment_text}
use Rattle.term_model.specs.declared.effect.Effect.{Effect}
use Rattle.term_model.specs.declared.effect.Source.{Source}
use Rattle.term_model.specs.declared.name.Rdn.{Rdn}
use Rattle.term_model.specs.declared.object.Object.{Object}
use Rattle.term_model.specs.declared.objects.NamedObject.{NamedObject}
use Rattle.term_model.specs.declared.reply.CmisError.{CmisError}
use Rattle.term_model.specs.declared.reply.Reply.{Reply}
use Rattle.term_model.specs.declared.reply.Reply.TheVariants as reply
use Rattle.term_model.specs.declared.request.Change.{Change}
use Rattle.term_model.specs.declared.request.Head.{Head}
use Rattle.term_model.specs.declared.request.IdRef.{IdRef}
use Rattle.term_model.specs.declared.request.Request.{Request}
use Rattle.term_model.specs.declared.request.Request.TheVariants as request
use Rattle.term_model.specs.declared.schema.Set.{Set}
use Rattle.term_model.specs.declared.scope.Scope.{Scope}
use Rattle.term_model.specs.declared.scope.Scope.TheVariants as scopes
use Rattle.term_model.specs.CmisErrors.{complexity_limitation}
use Rattle.term_model.specs.NameOrder.{name_cmp}
use Rattle.term_model.specs.NamedObjects.{object_at, removed, stored}
use Rattle.term_model.specs.ObjectGet.{get_effect}
use Rattle.term_model.specs.ObjectSet.{set_effect}
use Rattle.operation_model.specs.LinkedReplies.{linked_reply, replies_size}
use Rattle.operation_model.specs.OperationChecks.{Checked, checked}

-- the names at which a map is changed, each with the object that stands there now, or with none
abbrev pub Changed : Type 0
Changed = List (List Rdn × Option Object)

abbrev pub installed_at : List NamedObject → List Rdn → Option Object → List NamedObject
installed_at objects name (Some object) = stored (record { name = name; object = object }) objects
installed_at objects name None = removed name objects

abbrev pub installed : List NamedObject → Changed → List NamedObject
installed objects [] = objects
installed objects (change ∷ changes) = installed (installed_at objects change.0 change.1) changes

-- what an operation does to one object of a map
abbrev pub Act : Type 0
Act = List NamedObject → List Rdn → Object → Result Effect CmisError

-- how far an operation came: the objects as it left them, an answer for each object on which it acted, the errors of
-- those on which it failed once more, and the changes that may give notifications
pub record Progress : Type 0 where
  pub objects : List NamedObject
  pub replies : List Reply
  pub failures : List CmisError
  pub sources : List Source

abbrev pub begun : List NamedObject → Progress
begun objects = record { objects = objects; replies = []; failures = []; sources = [] }

abbrev pub answered : Progress → Result Effect CmisError → Progress
answered so_far (Ok effect) = record {
  objects = installed so_far.objects effect.changes;
  replies = so_far.replies ++ effect.reply ∷ [];
  failures = so_far.failures;
  sources = so_far.sources ++ effect.sources;
}
answered so_far (Err error) = record {
  objects = so_far.objects;
  replies = so_far.replies ++ reply.Error error ∷ [];
  failures = so_far.failures ++ error ∷ [];
  sources = so_far.sources;
}

-- the operation on one selected object, on what it left so far; one that is no longer there is passed over
abbrev pub acted_on : Act → Progress → List Rdn → Progress
acted_on act so_far name =
    option_map_or (λ object. answered so_far (act so_far.objects name object)) (object_at so_far.objects name) so_far

abbrev pub acted_on_all : Act → Progress → List (List Rdn) → Progress
acted_on_all act so_far [] = so_far
acted_on_all act so_far (name ∷ names) = acted_on_all act (acted_on act so_far name) names

-- atomic: where it fails on an object nothing is changed, and the failing objects' errors alone are answered
abbrev pub unless_failed : Bool → List NamedObject → Progress → List CmisError → Progress
unless_failed true objects made (first ∷ others) = record {
  objects = objects;
  replies = map reply.Error (first ∷ others);
  failures = first ∷ others;
  sources = [];
}
unless_failed true objects made [] = made
unless_failed false objects made failures = made

abbrev pub all_or_none : Bool → List NamedObject → Progress → Progress
all_or_none atomic objects made = unless_failed atomic objects made made.failures

-- baseObject has one reply, which is an empty result where the filter refuses the base object. Else each selected
-- object has a linked reply, and an empty result follows.
abbrev pub is_base_object : Scope → Bool
is_base_object (scopes.Plain number) = int_eq number (pos 0)
is_base_object _ = false

abbrev pub one_reply : List Reply → List Reply
one_reply [] = reply.Empty ∷ []
one_reply (first ∷ others) = first ∷ others

abbrev pub replies_to : Scope → ℕ → List Reply → List Reply
replies_to scope number answers =
    if is_base_object scope then one_reply answers else map (linked_reply number) answers ++ reply.Empty ∷ []

-- the objects that an operation leaves, its replies and the changes that may give notifications
pub record Outcome : Type 0 where
  pub objects : List NamedObject
  pub replies : List Reply
  pub sources : List Source

-- an operation that is refused changes nothing
abbrev pub refusal : List NamedObject → CmisError → Outcome
refusal objects error = record { objects = objects; replies = reply.Error error ∷ []; sources = [] }

-- at most 4 MiB are answered
abbrev pub within_size : List NamedObject → Outcome → Outcome
within_size objects outcome =
    if nat_le (replies_size outcome.replies) 4194304 then outcome else refusal objects complexity_limitation

abbrev pub concluded : List NamedObject → Scope → ℕ → Progress → Outcome
concluded objects scope number made =
    within_size objects (record {
      objects = made.objects;
      replies = replies_to scope number made.replies;
      sources = made.sources;
    })

-- atomic is synchronization 1
abbrev pub is_atomic : Head → Bool
is_atomic head = int_eq head.sync (pos 1)

abbrev pub acted : List NamedObject → Head → ℕ → Act → Checked → Outcome
acted objects head number act (Ok names) =
    concluded objects head.scope number
    (all_or_none (is_atomic head) objects (acted_on_all act (begun objects) names))
acted objects head number act (Err error) = refusal objects error

-- how many identifiers an m-Get lists
abbrev pub listed : Option (List IdRef) → ℕ
listed asked = option_map_or length asked 0

-- the text of the moment of a grant, in seconds since 1970; one past the year 9998 is taken as its last second
abbrev pub granted_at : ℕ → List ℕ
granted_at time = moment_text (min time 253370764799)

abbrev pub getting : Set → Option (List IdRef) → ℕ → Act
getting schema asked time objects name object = get_effect schema name object asked (granted_at time)

abbrev pub setting : Set → Head → List Change → ℕ → Act
setting schema head changes time objects name object =
    set_effect schema name object changes (is_atomic head) (granted_at time)

-- the outcomes of an m-Get and of an m-Set that are granted at a moment; results are linked as getResult [0] and
-- setResult [2]
abbrev pub get_outcome : Set → List NamedObject → Head → Option (List IdRef) → ℕ → Outcome
get_outcome schema objects head asked time =
    acted objects head 0 (getting schema asked time) (checked schema objects head (listed asked))

abbrev pub set_outcome : Set → List NamedObject → Head → List Change → ℕ → Outcome
set_outcome schema objects head changes time =
    acted objects head 2 (setting schema head changes time) (checked schema objects head (length changes))

abbrev pub outcome : Set → List NamedObject → Request → ℕ → Option Outcome
outcome schema objects (request.Get head ids) time = Some (get_outcome schema objects head ids time)
outcome schema objects (request.Set head changes confirmed) time = Some (set_outcome schema objects head changes time)
outcome schema objects _ time = None

-- each name at which two maps differ, once, by rising name, with what stands there now
pub record AreChanges (before after : List NamedObject) (changes : Changed) : Type 0 where
  pub rising : IsStrictlySortedBy name_cmp (map (λ (change : List Rdn × Option Object). change.0) changes)
  pub each : (change : List Rdn × Option Object) → Contains changes change
      → (object_at after change.0 ≡ change.1) × (object_at before change.0 ≢ change.1)
  pub others : (name : List Rdn)
      → (¬ Contains (map (λ (change : List Rdn × Option Object). change.0) changes) name)
      → object_at after name ≡ object_at before name
