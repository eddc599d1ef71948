-- What the argument of m-EventReport gives: X.711, section 7.4; docs/PROFILE.md, section 14. The relation is in
-- ObjectDenoting of request_laws.
use Rattle.std.specs.Prelude.{ℕ, List, Bool, Option, None, Some, option_and_then, find}
use Rattle.std.specs.Prelude.{if◌then◌else◌}
use Rattle.std.specs.Option.{option_map}
use Rattle.term_values.specs.FilterTrees.{is_context}
use Rattle.term_values.specs.LeafReading.{octets_in}
use Rattle.term_values.specs.Syntaxes.{TypeSyntax}
use Rattle.term_values.specs.Times.{is_time}
use Rattle.term_values.specs.Tree.{TreeValue, TreeValues}
use Rattle.term_values.specs.Tree.TreeValues.{Nothing, Then}
use Rattle.term_model.specs.declared.actions.NoteRec.{NoteRec}
use Rattle.term_model.specs.declared.filter_item.Given.{Given}
use Rattle.term_model.specs.declared.request.IdRef.{IdRef}
use Rattle.term_model.specs.declared.request.IdRef.TheVariants.{Global, Local}
use Rattle.term_model.specs.declared.request.Instance.{Instance}
use Rattle.term_model.specs.declared.request.Request.{Request}
use Rattle.term_model.specs.declared.request.Request.TheVariants as requests
use Rattle.term_model.specs.declared.schema.Set.{Set}
use Rattle.term_model.specs.Assertions.{given_of, id_in}
use Rattle.term_model.specs.Comparing.{is_same_oid}
use Rattle.term_model.specs.ArgumentRows.{at_end, at_front, held_under}
use Rattle.term_model.specs.RequestHeads.{object_of}

-- the trees that stand for the components behind class and instance
pub record ReportTrees : Type 0 where
  pub time : Option TreeValue
  pub kind : TreeValue
  pub info : Option TreeValue

abbrev pub report_behind : Option TreeValue → TreeValues → Option ReportTrees
report_behind time Nothing = None
report_behind time (Then kind rest) =
    option_map (λ info. record { time = time; kind = kind; info = info }) (at_end 8 rest)

abbrev pub report_trees : TreeValues → Option ReportTrees
report_trees trees = let time = at_front (is_context 5) trees in report_behind time.0 time.1

-- eventTime [5]: the octets of a GeneralizedTime
abbrev pub time_in : TreeValue → Option (List ℕ)
time_in tree = option_and_then (λ octets. if is_time octets then Some octets else None) (octets_in tree)

abbrev pub time_of : Option TreeValue → Option (Option (List ℕ))
time_of None = Some None
time_of (Some tree) = option_map Some (time_in tree)

-- the syntax of the information of the notification that is named, where it is known and has one
abbrev pub notification_syntax : List NoteRec → IdRef → Option TypeSyntax
notification_syntax records (Global id) =
    option_and_then (λ (of_notification : NoteRec). of_notification.information)
    (find (λ (of_notification : NoteRec). is_same_oid of_notification.id id) records)
notification_syntax records (Local number) = None

-- eventType, and eventInfo [8] EXPLICIT where it came
abbrev pub event_with : List NoteRec → IdRef → Option TreeValue → IdRef × Option Given
event_with records id value = (id, option_map (given_of (notification_syntax records id) id) value)

abbrev pub event_of : List NoteRec → TreeValue → Option TreeValue → Option (IdRef × Option Given)
event_of records kind info =
    option_and_then (λ value. option_map (λ named. event_with records named value) (id_in 6 7 kind))
    (held_under 8 info)

abbrev pub report_with : Bool → IdRef × Instance → IdRef × Option Given → Option TreeValue → Option Request
report_with confirmed object event time =
    option_map (λ octets. requests.Report object.0 object.1 event.0 octets event.1 confirmed) (time_of time)

abbrev pub report_of : Set → Bool → TreeValue → TreeValue → ReportTrees → Option Request
report_of set confirmed class base trees =
    option_and_then (λ (event : IdRef × Option Given).
    option_and_then (λ (object : IdRef × Instance). report_with confirmed object event trees.time)
    (object_of set class base))
    (event_of set.notifications trees.kind trees.info)

abbrev pub report_in : Set → Bool → TreeValues → Option Request
report_in set confirmed Nothing = None
report_in set confirmed (Then class Nothing) = None
report_in set confirmed (Then class (Then base rest)) =
    option_and_then (report_of set confirmed class base) (report_trees rest)
