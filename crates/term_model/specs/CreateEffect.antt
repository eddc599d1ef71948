-- What a creation does and answers: X.711, section 7.4, m-Create.
use Rattle.std.specs.Prelude.{ℕ, List, [], ◌∷◌, true, Option, Some, Result, Ok, Err}
use Rattle.term_values.specs.Moment.{moment_text}
use Rattle.term_model.specs.declared.effect.Effect.{Effect}
use Rattle.term_model.specs.declared.effect.What.TheVariants.{Created}
use Rattle.term_model.specs.declared.filter_item.Given.{Given}
use Rattle.term_model.specs.declared.name.Rdn.{Rdn}
use Rattle.term_model.specs.declared.object.Object.{Object}
use Rattle.term_model.specs.declared.objects.NamedObject.{NamedObject}
use Rattle.term_model.specs.declared.reply.CmisError.{CmisError}
use Rattle.term_model.specs.declared.reply.Reply.TheVariants as reply
use Rattle.term_model.specs.declared.request.IdRef.{IdRef}
use Rattle.term_model.specs.declared.request.Instance.{Instance}
use Rattle.term_model.specs.declared.request.Named.{Named}
use Rattle.term_model.specs.declared.request.Named.TheVariants as named
use Rattle.term_model.specs.declared.schema.Set.{Set}
use Rattle.term_model.specs.Creating.{Asking, create_named}
use Rattle.term_model.specs.ObjectOperation.{get_one}

-- the object stands under its name; the result has all attributes that managers may read, and the creation is told
abbrev pub creation_effect : Set → List Rdn → Object → ℕ → Effect
creation_effect schema name object time = record {
  changes = (name, Some object) ∷ [];
  reply = reply.Single (get_one schema name object (moment_text time));
  sources = record { name = name; class = object.class; what = Created } ∷ [];
}

-- what a manager asks for, who names the instance
abbrev pub asking_for : IdRef → Instance → Option Instance → List Given → Asking
asking_for class instance reference given = record {
  class = class;
  instance = instance.raw;
  reference = reference;
  given = given;
  clause = true;
}

abbrev pub name_in : Named → List Rdn
name_in (named.Object name) = name
name_in _ = []

abbrev pub effect_of : Set → List Rdn → ℕ → Result Object CmisError → Result Effect CmisError
effect_of schema name time (Ok object) = Ok (creation_effect schema name object time)
effect_of schema name time (Err error) = Err error

-- the effect of an m-Create that names the instance, or its error
abbrev pub create_one : Set → List NamedObject → IdRef → Instance → Option Instance → List Given → ℕ
    → Result Effect CmisError
create_one schema objects class instance reference given time =
    effect_of schema (name_in instance.named) time
    (create_named schema objects (asking_for class instance reference given) instance.named)
