-- What actionError and processingFailure hold, as values of the syntaxes of ResultSyntaxes: X.711, section 7.5;
-- docs/PROFILE.md, section 4.
use Rattle.std.specs.Prelude.{ℕ, ℤ, List, [], ◌∷◌, codes}
use Rattle.term_values.specs.CmipTypes.{explicit, object_class, one}
use Rattle.term_values.specs.ResultSyntaxes.{failure_reason}
use Rattle.term_values.specs.Syntaxes.{TypeSyntax, TypeParts}
use Rattle.term_values.specs.Syntaxes.TypeParts.{NoParts}
use Rattle.term_values.specs.Syntaxes.TypeSyntax.{Any, Sequence}
use Rattle.term_values.specs.Typed.{TypedValue}
use Rattle.term_values.specs.Typed.TypedSlots.{NoSlots, Filled}
use Rattle.term_values.specs.Typed.TypedValue.{Identifier, Int, Null, Parts}
use Rattle.term_model.specs.declared.name.Rdn.{Rdn}
use Rattle.term_model.specs.declared.request.IdRef.{IdRef}
use Rattle.term_model.specs.declared.results.FailureReason.{FailureReason}
use Rattle.term_model.specs.declared.results.FailureReason.TheVariants as reasons
use Rattle.term_model.specs.ResultValues.{id_value, result_slots}

-- the error of an action on one of several objects: its number, and the action as the request named it
abbrev pub action_error_value : List ℕ → List Rdn → List ℕ → ℤ → IdRef → TypedValue
action_error_value class name time status action =
    Parts (result_slots class name time
    (Filled (Parts (Filled (Int status) (Filled (id_value action) NoSlots))) NoSlots))

-- the reasons by their numbers, and under which identifiers they are registered
abbrev pub reason_number : FailureReason → ℕ
reason_number reasons.Contained = 1
reason_number reasons.NotDeletable = 2
reason_number reasons.NotCreatable = 3
reason_number reasons.Limit = 4
reason_number reasons.Rule = 5

abbrev pub reason_id : FailureReason → List ℕ
reason_id reason = 2 ∷ 999 ∷ 9 ∷ 10 ∷ reason_number reason ∷ []

-- class and instance, where the instance stands as the request brought it, in the form in which an ANY is kept
abbrev pub kept_object_parts : TypeParts → TypeParts
kept_object_parts rest = one (codes "objectClass") object_class (one (codes "objectInstance") Any rest)

abbrev pub kept_base : TypeSyntax
kept_base = Sequence (kept_object_parts NoParts)

abbrev pub kept_failure : TypeSyntax
kept_failure = Sequence (kept_object_parts (one (codes "specificErrorInfo") (explicit 5 failure_reason) NoParts))

-- the class, and the value of the instance, which is Raw where it is kept
abbrev pub base_value : IdRef → TypedValue → TypedValue
base_value class instance = Parts (Filled (id_value class) (Filled instance NoSlots))

abbrev pub failure_value : IdRef → TypedValue → FailureReason → TypedValue
failure_value class instance reason =
    Parts (Filled (id_value class) (Filled instance
    (Filled (Parts (Filled (Identifier (reason_id reason)) (Filled Null NoSlots))) NoSlots)))
