-- What an m-Create that names the new object does, and that it keeps to its unit: X.711, section 7.4.
use Rattle.std.specs.Prelude.{ℕ, List, [], ◌∷◌, Option, Result, Ok, Err}
use Rattle.term_model.specs.declared.effect.Effect.{Effect}
use Rattle.term_model.specs.declared.filter_item.Given.{Given}
use Rattle.term_model.specs.declared.objects.NamedObject.{NamedObject}
use Rattle.term_model.specs.declared.reply.CmisError.{CmisError}
use Rattle.term_model.specs.declared.request.IdRef.{IdRef}
use Rattle.term_model.specs.declared.request.Instance.{Instance}
use Rattle.term_model.specs.declared.request.Place.TheVariants as place
use Rattle.term_model.specs.declared.request.Request.{Request}
use Rattle.term_model.specs.declared.request.Request.TheVariants as request
use Rattle.term_model.specs.declared.schema.Set.{Set}
use Rattle.term_model.specs.CreateEffect.{create_one}
use Rattle.operation_model.specs.WholeOperation.{Outcome, installed, refusal}
use Rattle.lock_model.specs.Units.{request_unit}
use Rattle.lock_model.specs.OperationLaws.{KeepsToUnit}

abbrev pub naming : IdRef → Instance → Option Instance → List Given → Request
naming class instance reference given = request.Create class (place.At instance) reference given

-- what the creation leaves and answers, as if there were room for one object more
abbrev pub effected : List NamedObject → Result Effect CmisError → Outcome
effected objects (Ok effect) = record {
  objects = installed objects effect.changes;
  replies = effect.reply ∷ [];
  sources = effect.sources;
}
effected objects (Err error) = refusal objects error

abbrev pub created_outcome : Set → List NamedObject → IdRef → Instance → Option Instance → List Given → ℕ → Outcome
created_outcome schema objects class instance reference given time =
    effected objects (create_one schema objects class instance reference given time)

abbrev pub CreateKeepsToUnit : Type 0
CreateKeepsToUnit = (schema : Set) (class : IdRef) (instance : Instance) (reference : Option Instance)
    (given : List Given) (time : ℕ)
    → KeepsToUnit schema (request_unit schema (naming class instance reference given))
    (λ objects. created_outcome schema objects class instance reference given time)
