-- What an m-EventReport of a manager does to one object: X.711, section 7.3, m-EventReport; docs/PROFILE.md, section 15.
-- It changes nothing: it is answered, and is a source, from which the report that discriminators and logs see is made.
use Rattle.std.specs.Prelude.{ℕ, List, [], ◌∷◌, Option, None, Some, Result, Ok, Err}
use Rattle.std.specs.Option.{option_map}
use Rattle.term_values.specs.ResultSyntaxes.{plain_result}
use Rattle.term_values.specs.Typed.{TypedValue}
use Rattle.term_model.specs.declared.actions.NoteRec.{NoteRec}
use Rattle.term_model.specs.declared.effect.Effect.{Effect}
use Rattle.term_model.specs.declared.effect.What.TheVariants as what
use Rattle.term_model.specs.declared.filter_item.Given.{Given}
use Rattle.term_model.specs.declared.name.Rdn.{Rdn}
use Rattle.term_model.specs.declared.object.Object.{Object}
use Rattle.term_model.specs.declared.reply.CmisError.{CmisError}
use Rattle.term_model.specs.declared.request.IdRef.{IdRef}
use Rattle.term_model.specs.declared.schema.Set.{Set}
use Rattle.term_model.specs.CmisErrors.{invalid_event_argument, no_such_event_argument, no_such_event_type}
use Rattle.term_model.specs.Replies.{single}
use Rattle.term_model.specs.ResultValues.{plain_value}
use Rattle.action_model.specs.Arguments.{argument_of, written_in}
use Rattle.action_model.specs.OfferedTypes.{notification_named}

-- the reply, and the source: the event type, the time that the request named, as it was spelled, and the information in
-- its written encoding
abbrev pub reported : List ℕ → List Rdn → NoteRec → Option (List ℕ) → Option TypedValue → List ℕ → Effect
reported class name notification named_time information time = record {
  changes = [];
  reply = single plain_result (plain_value class name time);
  sources = record {
    name = name;
    class = class;
    what = what.Reported notification.id named_time (option_map (written_in notification.information) information);
  } ∷ [];
}

abbrev pub by_information : List ℕ → List Rdn → NoteRec → Option (List ℕ) → List ℕ
    → Result (Option TypedValue) CmisError → Result Effect CmisError
by_information class name notification named_time time (Err error) = Err error
by_information class name notification named_time time (Ok information) =
    Ok (reported class name notification named_time information time)

-- noSuchEventType 13, then noSuchArgument 14, then invalidArgumentValue 15, each with the event type as the request
-- named it
abbrev pub by_notification : List ℕ → List Rdn → IdRef → Option (List ℕ) → Option Given → List ℕ → Option NoteRec
    → Result Effect CmisError
by_notification class name asked named_time came time None = Err (no_such_event_type asked)
by_notification class name asked named_time came time (Some notification) =
    by_information class name notification named_time time
    (argument_of notification.information came (no_such_event_argument asked) (invalid_event_argument asked))

-- the report of an event of this type of an object, granted at the moment that the last text tells
abbrev pub report_effect : Set → List Rdn → Object → IdRef → Option (List ℕ) → Option Given → List ℕ
    → Result Effect CmisError
report_effect schema name object asked named_time came time =
    by_notification object.class name asked named_time came time (notification_named schema object asked)
