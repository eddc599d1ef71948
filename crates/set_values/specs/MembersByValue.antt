-- Members added and removed are the union and the difference of sets of values, where members can be written: X.711,
-- type ModifyOperator.
use Rattle.std.specs.Prelude.{◌↔◌, ◌⊎◌}
use Rattle.term_values.specs.Fits.{AllFit}
use Rattle.term_values.specs.Matching.{Have}
use Rattle.term_values.specs.Syntaxes.{TypeSyntax}
use Rattle.term_values.specs.Typed.{TypedValue, TypedValues}
use Rattle.term_values.specs.Written.{der}
use Rattle.typed_laws.specs.WritingLaws.{CanBeWritten}
use Rattle.term_values.specs.SetMembers.{added, removed}

-- a value is a member then where it was held or is given
abbrev pub AddedAreUnion : Type 0
AddedAreUnion = (member : TypeSyntax) (held given : TypedValues) (value : TypedValue) →
    AllFit (CanBeWritten member) held → AllFit (CanBeWritten member) given →
    Have (added (der member) held given) value ↔ (Have held value ⊎ Have given value)

-- a value is a member then where it was held and isn't given
abbrev pub RemovedAreDifference : Type 0
RemovedAreDifference = (member : TypeSyntax) (held given : TypedValues) (value : TypedValue) →
    AllFit (CanBeWritten member) held → AllFit (CanBeWritten member) given →
    Have (removed (der member) held given) value ↔ (Have held value × (¬ (Have given value)))
