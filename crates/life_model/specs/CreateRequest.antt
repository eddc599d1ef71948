-- What an m-Create does and answers, wherever it asks for the object: X.711, section 7.4, m-Create; docs/PROFILE.md,
-- section 15. How many objects there are is not looked at.
use Rattle.std.specs.Prelude.{ℕ, List, [], Option, Result, Ok, Err}
use Rattle.term_model.specs.declared.effect.Effect.{Effect}
use Rattle.term_model.specs.declared.filter_item.Given.{Given}
use Rattle.term_model.specs.declared.objects.NamedObject.{NamedObject}
use Rattle.term_model.specs.declared.reply.CmisError.{CmisError}
use Rattle.term_model.specs.declared.reply.Reply.TheVariants as reply
use Rattle.term_model.specs.declared.request.IdRef.{IdRef}
use Rattle.term_model.specs.declared.request.Instance.{Instance}
use Rattle.term_model.specs.declared.request.Named.TheVariants as named
use Rattle.term_model.specs.declared.request.Place.{Place}
use Rattle.term_model.specs.declared.request.Place.TheVariants as places
use Rattle.term_model.specs.declared.request.Request.{Request}
use Rattle.term_model.specs.declared.request.Request.TheVariants as request
use Rattle.term_model.specs.declared.schema.Set.{Set}
use Rattle.term_model.specs.CreateEffect.{asking_for, create_one, creation_effect}
use Rattle.term_model.specs.GetRequest.{instance_octets}
use Rattle.life_model.specs.ChosenCreation.{create_chosen}

abbrev pub chosen_effect : Set → ℕ → Result NamedObject CmisError → Result Effect CmisError
chosen_effect schema time (Ok made) = Ok (creation_effect schema made.name made.object time)
chosen_effect schema time (Err error) = Err error

-- below this superior
abbrev pub create_below : Set → List NamedObject → IdRef → Instance → Option Instance → List Given → ℕ
    → Result Effect CmisError
create_below schema objects class superior reference given time =
    chosen_effect schema time
    (create_chosen schema objects (asking_for class superior reference given) superior.named)

-- the root, in the empty localDistinguishedName
abbrev pub root_instance : Instance
root_instance = record { raw = instance_octets []; named = named.Object [] }

-- under the name that is given, below the superior that is given, or else below the root
abbrev pub create_at : Set → List NamedObject → IdRef → Place → Option Instance → List Given → ℕ
    → Result Effect CmisError
create_at schema objects class (places.At instance) reference given time =
    create_one schema objects class instance reference given time
create_at schema objects class (places.Below superior) reference given time =
    create_below schema objects class superior reference given time
create_at schema objects class places.Free reference given time =
    create_below schema objects class root_instance reference given time

-- nothing is changed, answered or told
abbrev pub nothing_done : Effect
nothing_done = record { changes = []; reply = reply.Empty; sources = [] }

-- the effect of an m-Create or its error; another request creates nothing
abbrev pub create_request : Set → List NamedObject → Request → ℕ → Result Effect CmisError
create_request schema objects (request.Create class place reference given) time =
    create_at schema objects class place reference given time
create_request schema objects _ time = Ok nothing_done
