-- What comes of an operation on objects that were selected, as it is noted one after the other: the changes stand
-- beside the map, which stays, and in an atomic operation the errors stand apart. X.711, section 7.5, type CMISSync.
use Rattle.std.specs.Prelude.{ℕ, List, [], ◌∷◌, ◌++◌, Bool, true, false, Result, Ok, Err}
use Rattle.std.specs.Option.{option_map_or}
use Rattle.op_engine.specs.declared.acting.Acting.{Acting}
use Rattle.term_model.specs.declared.effect.Effect.{Effect}
use Rattle.term_model.specs.declared.name.Rdn.{Rdn}
use Rattle.term_model.specs.declared.objects.NamedObject.{NamedObject}
use Rattle.term_model.specs.declared.reply.CmisError.{CmisError}
use Rattle.term_model.specs.declared.reply.Reply.{Reply}
use Rattle.term_model.specs.declared.reply.Reply.TheVariants as reply
use Rattle.term_model.specs.declared.request.Request.{Request}
use Rattle.term_model.specs.declared.request.Request.TheVariants as request
use Rattle.term_model.specs.declared.schema.Set.{Set}
use Rattle.term_model.specs.CmisErrors.{mistyped_operation}
use Rattle.term_model.specs.NamedObjects.{object_at}
use Rattle.operation_model.specs.WholeOperation.{Act, getting, setting}

abbrev pub nothing_done : Acting
nothing_done = record { changes = []; replies = []; failures = []; sources = [] }

-- an effect behind what was noted
abbrev pub with_effect : Acting → Effect → Acting
with_effect so_far effect = record {
  changes = so_far.changes ++ effect.changes;
  replies = so_far.replies ++ effect.reply ∷ [];
  failures = so_far.failures;
  sources = so_far.sources ++ effect.sources;
}

-- an error behind it
abbrev pub with_failure : Bool → Acting → CmisError → Acting
with_failure true so_far error = record {
  changes = so_far.changes;
  replies = so_far.replies;
  failures = so_far.failures ++ reply.Error error ∷ [];
  sources = so_far.sources;
}
with_failure false so_far error = record {
  changes = so_far.changes;
  replies = so_far.replies ++ reply.Error error ∷ [];
  failures = so_far.failures;
  sources = so_far.sources;
}

abbrev pub noted : Bool → Acting → Result Effect CmisError → Acting
noted atomic so_far (Ok effect) = with_effect so_far effect
noted atomic so_far (Err error) = with_failure atomic so_far error

abbrev pub noted_at : Bool → Act → List NamedObject → Acting → List Rdn → Acting
noted_at atomic act objects so_far name =
    option_map_or (λ object. noted atomic so_far (act objects name object)) (object_at objects name) so_far

abbrev pub noted_of : Bool → Act → List NamedObject → Acting → List (List Rdn) → Acting
noted_of atomic act objects so_far [] = so_far
noted_of atomic act objects so_far (name ∷ names) =
    noted_of atomic act objects (noted_at atomic act objects so_far name) names

-- where an atomic operation failed on an object, its errors alone
abbrev pub settled_with : Acting → List Reply → Acting
settled_with made [] = made
settled_with made (first ∷ others) = record {
  changes = [];
  replies = first ∷ others;
  failures = [];
  sources = [];
}

abbrev pub settled : Acting → Acting
settled made = settled_with made made.failures

-- what a request of these kinds does to one object; no other request is acted on
abbrev pub act_of : Set → Request → ℕ → Act
act_of schema (request.Get head ids) time = getting schema ids time
act_of schema (request.Set head changes confirmed) time = setting schema head changes time
act_of schema _ time = λ objects name object. Err mistyped_operation
