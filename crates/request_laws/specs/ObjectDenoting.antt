-- Which request the argument of m-EventReport denotes under a schema: X.711, section 7.4. The function that computes is
-- report_in of RequestReading.
use Rattle.std.specs.Prelude.{◌≡◌, ℕ, pos, List, Bool, false, true, Option, None, Some}
use Rattle.term_values.specs.CmipTypes.{implicit}
use Rattle.term_values.specs.Denotes.{Denotes}
use Rattle.term_values.specs.Syntaxes.{TypeSyntax}
use Rattle.term_values.specs.Syntaxes.TypeSyntax.{GeneralizedTime}
use Rattle.term_values.specs.Tag.{context, universal}
use Rattle.term_values.specs.Tree.{TreeValue}
use Rattle.term_values.specs.Tree.TreeValue.{Constructed}
use Rattle.term_values.specs.Tree.TreeValues.{Nothing, Then}
use Rattle.term_values.specs.Typed.TypedValue.{Time}
use Rattle.typed_laws.specs.TreeOctets.{HasOctets}
use Rattle.filter_laws.specs.DenotingLaws.{IsClear}
use Rattle.term_model.specs.declared.filter_item.Given.{Given}
use Rattle.term_model.specs.declared.request.IdRef.{IdRef}
use Rattle.term_model.specs.declared.request.Instance.{Instance}
use Rattle.term_model.specs.declared.request.Request.{Request}
use Rattle.term_model.specs.declared.request.Request.TheVariants as requests
use Rattle.term_model.specs.declared.schema.Set.{Set}
use Rattle.term_model.specs.Assertions.{IsGiven, IsIdRef}
use Rattle.term_model.specs.ReportReading.{notification_syntax}
use Rattle.term_model.specs.RequestReading.{request_in}
use Rattle.request_laws.specs.RequestDenoting.{IsInstance, before}

-- eventTime [5], which may be left out
abbrev pub IsTime : Option TreeValue → Option (List ℕ) → Type 0
IsTime None time = time ≡ None
IsTime (Some x) time = (octets : List ℕ) × Denotes (implicit 5 GeneralizedTime) x (Time octets) × (time ≡ Some octets)

-- eventInfo [8] EXPLICIT, which may be left out
abbrev pub IsInfo : Option TypeSyntax → IdRef → Option TreeValue → Option Given → Type 0
IsInfo syntax id None given = given ≡ None
IsInfo syntax id (Some x) given =
    (value : TreeValue) × (found : Given) × (x ≡ Constructed (context 8) (Then value Nothing))
    × IsGiven syntax id value found × (given ≡ Some found)

-- the argument of m-EventReport denotes the request
abbrev pub DenotesReport : Set → Bool → TreeValue → Request → Type 0
DenotesReport set confirmed tree request =
    (class base : TreeValue) × (time : Option TreeValue) × (kind : TreeValue) × (info : Option TreeValue)
    × (of_class : IdRef) × (of_base : Instance) × (event : IdRef) × (at : Option (List ℕ)) × (given : Option Given)
    × (tree ≡ Constructed (universal 16) (Then class (Then base (before time (Then kind (before info Nothing))))))
    × IsIdRef 0 1 class of_class × IsInstance set base of_base × IsTime time at × IsIdRef 6 7 kind event
    × IsInfo (notification_syntax set.notifications event) event info given
    × (request ≡ requests.Report of_class of_base event at given confirmed)

-- the tags of the information of each notification are clear
abbrev pub NotificationsAreClear : Set → Type 0
NotificationsAreClear set = (id : IdRef) → IsClear (notification_syntax set.notifications id)

-- the request that is read of the argument of m-EventReport, confirmed or not, is one that the tree denotes
abbrev pub ReportIsDenoted : Type 0
ReportIsDenoted = (set : Set) (tree : TreeValue) (request : Request) → NotificationsAreClear set → HasOctets tree →
    (request_in set (pos 0) tree ≡ Some request → DenotesReport set false tree request)
    × (request_in set (pos 1) tree ≡ Some request → DenotesReport set true tree request)
